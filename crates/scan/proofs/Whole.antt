-- From the claims of a whole text to numbers 20 and 21. Assumes nothing.
use Rattle.std.proofs.Common.{ℕ, zero, suc, ◌+◌, ◌≤◌, ◌<◌, min, ◌≡◌, refl, sym, ◌∙◌, ap, subst, ◌⊎◌, inl, inr, false, List, [], ◌∷◌, ◌++◌, arith, length, take, drop, length-take, take_all, Result, Ok, Err}
use Rattle.grammar.specs.Tree.{Particle, Particles, name, choice, sequence, last, more, Use, Nth, first, later, Content, is-empty, is_text, is_any, is_mixed, is_children, Declaration, uses_in, uses_in_all, uses_of}
use Rattle.grammar.specs.Grammar.{Text, Items}
use Rattle.grammar.specs.Stops.{Viable, Stops, at_byte, at_end}
use Rattle.grammar.specs.Limits.{DeepAt, DeepIn, NameIn, declared_name, used_name, Holds, any_content, mixed_content, long_name, deep_group, long_text}
use Rattle.grammar.specs.Limits as limits
use Rattle.grammar.proofs.Stopping.{le_or_lt, viable_less, over_within}
use Rattle.scan.specs.Steps.Scanned.{Stopped, Passed, Read, Scanned}
use Rattle.scan.specs.Steps.Agree.{peek, Agree}
use Rattle.scan.specs.Steps.Items.{Nothing, EndsAt, ItemsRead}
use Rattle.scan.specs.Steps.Readers.{place_of}
use Rattle.scan.specs.declared.Stop.{Stop}
use Rattle.scan.specs.declared.Stop.TheVariants.{Bad, Over}
use Rattle.scan.specs.Steps.Claims.{plain, limit, LongAt, WideAt, WideIn, LongIn, ContentLimit, DeclarationLimit, InSome, Enough, FromItems}
use Rattle.scan.specs.Steps.Moves.{Stuck, Exceeds, Free, Moves, Reads, got, bad, over}
use Rattle.scan.proofs.Agreeing.{peek_end, peek_take, agree_same, agree_less, begins_so, agree_so}
use Rattle.scan.proofs.Readings.{reads_moves}

-- a used name of over 32 bytes
record Long (us : List Use) (j n : ℕ) : Type 0 where
  i : ℕ
  used : Use
  there : Nth us i used
  long : LongAt used.place used.bytes j n

left_of : {A : Type 0} {l : List A} {i : ℕ} {a : A} (m : List A) → Nth l i a → Nth (l ++ m) i a
left_of m first = first
left_of m (later h) = later (left_of m h)

right_of : {A : Type 0} (l : List A) {m : List A} {i : ℕ} {a : A} → Nth m i a → (k : ℕ) × Nth (l ++ m) k a
right_of [] {i = i} h = (i, h)
right_of (b ∷ l) h = let r = right_of l h in (suc r.0, later r.1)

part_of : {A : Type 0} (l : List A) {m : List A} {i : ℕ} {a : A} → Nth (l ++ m) i a → ((k : ℕ) × Nth l k a) ⊎ ((k : ℕ) × Nth m k a)
part_of [] {i = i} h = inr (i, h)
part_of (b ∷ l) first = inl (0, first)
part_of (b ∷ l) (later h) = elim (part_of l h) [ inl r ↦ inl (suc r.0, later r.1) | inr r ↦ inr r ]

long_in : {us : List Use} {i j n : ℕ} {x : Use} → Nth us i x → LongAt x.place x.bytes j n → LongIn us j n
long_in first l = inl l
long_in (later h) l = inr (long_in h l)

in_long : (us : List Use) (j n : ℕ) → LongIn us j n → Long us j n
in_long [] j n w = absurd w
in_long (x ∷ us) j n (inl w) = record { i = 0; used = x; there = first; long = w }
in_long (x ∷ us) j n (inr w) = let r = in_long us j n w in record { i = suc r.i; used = r.used; there = later r.there; long = r.long }

-- the limits of a particle are its long names and its deep groups
abbrev Of : List Use → Type 0 → ℕ → ℕ → Type 0
Of us D j n = Long us j n ⊎ (D × (n ≡ suc j))

mutual
  wide_at : (p : Particle) (depth j n : ℕ) → Of (uses_in p) (DeepAt p depth j) j n → WideAt depth p j n
  wide_at (name a x k) depth j n (inl w) = only w.there w.long
    where
      only : {i : ℕ} {y : Use} → Nth (record { place = a; bytes = x } ∷ []) i y → LongAt y.place y.bytes j n → LongAt a x j n
      only first l = l
      only {y = y} (later {i = i} x10) l = elim x10 [ ]
  wide_at (name a x k) depth j n (inr w) = absurd w.0
  wide_at (choice a ps k) zero j n (inl w) = inr (wide_in ps zero j n (inl w))
  wide_at (choice a ps k) zero j n (inr (inl e, z)) = inl (sym e, z)
  wide_at (choice a ps k) zero j n (inr (inr e, z)) = inr (wide_in ps zero j n (inr (e, z)))
  wide_at (choice a ps k) (suc depth) j n w = wide_in ps depth j n w
  wide_at (sequence a ps k) zero j n (inl w) = inr (wide_in ps zero j n (inl w))
  wide_at (sequence a ps k) zero j n (inr (inl e, z)) = inl (sym e, z)
  wide_at (sequence a ps k) zero j n (inr (inr e, z)) = inr (wide_in ps zero j n (inr (e, z)))
  wide_at (sequence a ps k) (suc depth) j n w = wide_in ps depth j n w

  wide_in : (ps : Particles) (depth j n : ℕ) → Of (uses_in_all ps) (DeepIn ps depth j) j n → WideIn depth ps j n
  wide_in (last p) depth j n w = wide_at p depth j n w
  wide_in (more p ps) depth j n (inl w) = elim (part_of (uses_in p) w.there) [
    | inl h ↦ inl (wide_at p depth j n (inl (record { i = h.0; used = w.used; there = h.1; long = w.long })))
    | inr h ↦ inr (wide_in ps depth j n (inl (record { i = h.0; used = w.used; there = h.1; long = w.long })))
  ]
  wide_in (more p ps) depth j n (inr (inl w, z)) = inl (wide_at p depth j n (inr (w, z)))
  wide_in (more p ps) depth j n (inr (inr w, z)) = inr (wide_in ps depth j n (inr (w, z)))

mutual
  at_wide : (p : Particle) (depth j n : ℕ) → WideAt depth p j n → Of (uses_in p) (DeepAt p depth j) j n
  at_wide (name a x k) depth j n w = inl (record { i = 0; used = record { place = a; bytes = x }; there = first; long = w })
  at_wide (choice a ps k) zero j n (inl w) = inr (inl (sym w.0), w.1)
  at_wide (choice a ps k) zero j n (inr w) = elim (in_wide ps zero j n w) [ inl l ↦ inl l | inr d ↦ inr (inr d.0, d.1) ]
  at_wide (choice a ps k) (suc depth) j n w = in_wide ps depth j n w
  at_wide (sequence a ps k) zero j n (inl w) = inr (inl (sym w.0), w.1)
  at_wide (sequence a ps k) zero j n (inr w) = elim (in_wide ps zero j n w) [ inl l ↦ inl l | inr d ↦ inr (inr d.0, d.1) ]
  at_wide (sequence a ps k) (suc depth) j n w = in_wide ps depth j n w

  in_wide : (ps : Particles) (depth j n : ℕ) → WideIn depth ps j n → Of (uses_in_all ps) (DeepIn ps depth j) j n
  in_wide (last p) depth j n w = at_wide p depth j n w
  in_wide (more p ps) depth j n (inl w) = elim (at_wide p depth j n w) [
    | inl l ↦ inl (record { i = l.i; used = l.used; there = left_of (uses_in_all ps) l.there; long = l.long })
    | inr d ↦ inr (inl d.0, d.1)
  ]
  in_wide (more p ps) depth j n (inr w) = elim (in_wide ps depth j n w) [
    | inl l ↦ (let r = right_of (uses_in p) l.there in inl (record { i = r.0; used = l.used; there = r.1; long = l.long }))
    | inr d ↦ inr (inr d.0, d.1)
  ]

-- a declaration's limits, and those of the text
nowhere : {us : List Use} {i : ℕ} {u : Use} → Nth us i u → length us ≡ 0 → ⊥
nowhere first e = omega arith
nowhere (later r) e = omega arith

content_limit : (x : Content) {j n : ℕ} → n ≡ suc j → Long (uses_of x) j n → ContentLimit x j n
content_limit is-empty e w = absurd (nowhere w.there refl)
content_limit is_text e w = absurd (nowhere w.there refl)
content_limit (is_any a) e w = absurd (nowhere w.there refl)
content_limit (is_mixed a us) e w = inr (long_in w.there w.long)
content_limit (is_children p) {j} {n} e w = wide_at p 16 j n (inl w)

nth_limit : {ds : List Declaration} {i : ℕ} {d : Declaration} (j n : ℕ) → Nth ds i d → DeclarationLimit d j n → InSome (limit j n) ds
nth_limit j n first w = inl w
nth_limit j n (later h) w = inr (nth_limit j n h w)

limit_nth : (j n : ℕ) (ds : List Declaration) → InSome (limit j n) ds → (i : ℕ) × ((d : Declaration) × Nth ds i d × DeclarationLimit d j n)
limit_nth j n [] w = absurd w
limit_nth j n (d ∷ ds) (inl w) = (0, (d, first, w))
limit_nth j n (d ∷ ds) (inr w) = let r = limit_nth j n ds w in (suc r.0, (r.1.0, later r.1.1, r.1.2))

-- a text that begins with the first bytes of t and passes a limit at j
record Passing (t : List ℕ) (j : ℕ) : Type 0 where
  size : ℕ
  order : j < size
  close : size ≤ 3 + j
  other : List ℕ
  alike : Agree t other size
  part : FromItems false 0 (limit j size) other

passing : {t : List ℕ} {j n : ℕ} {d : Declaration} → j < n → n ≤ 3 + j → Holds t n d → DeclarationLimit d j n → Passing t j
passing {t} {j} {n} l i h w = record {
  size = n;
  order = l;
  close = i;
  other = take n t ++ h.begins.more_bytes;
  alike = agree_so t h.begins.more_bytes n h.begins.inside;
  part = record { trees = h.head ∷ h.tail; items = h.begins.text.items; enough = tt; limits = nth_limit j n h.there w };
}

name_limit : {d : Declaration} {p j : ℕ} {x : List ℕ} → NameIn d p x → j ≡ p + 32 → 32 < length x → DeclarationLimit d j (suc j)
name_limit declared_name e l = inl (l, e, refl)
name_limit {d} (used_name {i} {u} h) e l = inr (content_limit d.content refl (record { i = i; used = u; there = h; long = (l, e, refl) }))

over_passing : {t : List ℕ} {j : ℕ} → limits.Over t j → Passing t j ⊎ (j ≡ 65536)
over_passing {t} {j} (any_content h e) = inl (passing (omega arith) (omega arith) h (inr (subst (λ (x : Content). ContentLimit x j (3 + j)) (sym e) (refl, refl))))
over_passing {t} {j} (mixed_content h e) = inl (passing (omega arith) (omega arith) h (inr (subst (λ (x : Content). ContentLimit x j (suc j)) (sym e) (inl (refl, refl)))))
over_passing (long_name h m e l) = inl (passing (omega arith) (omega arith) h (name_limit m e l))
over_passing {t} {j} (deep_group {p = p} h e w) = inl (passing (omega arith) (omega arith) h (inr (subst (λ (x : Content). ContentLimit x j (suc j)) (sym e) (wide_at p 16 j (suc j) (inr (w, refl))))))
over_passing (long_text e l) = inr e

-- and back
used_over : {t : List ℕ} {k n : ℕ} {d : Declaration} (x : Content) → d.content ≡ x → Holds t n d → Long (uses_of x) k n → limits.Over t k
used_over {t} {k} {n} {d} x c h w =
    long_name (rw w.long.2 at h) (used_name {u = w.used} (subst (λ (z : Content). Nth (uses_of z) w.i w.used) (sym c) w.there)) w.long.1 w.long.0

content_over : {t : List ℕ} {k n : ℕ} {d : Declaration} (x : Content) → d.content ≡ x → Holds t n d → ContentLimit x k n → limits.Over t k
content_over is-empty c h w = absurd w
content_over is_text c h w = absurd w
content_over {k = k} {n = n} (is_any a) c h w = let z : n ≡ 3 + k = omega (arith, w.0, w.1) in any_content (rw z at h) (c ∙ ap is_any (sym w.0))
content_over (is_mixed a us) c h (inl w) = mixed_content (rw w.1 at h) (c ∙ ap (λ z. is_mixed z us) (sym w.0))
content_over {k = k} {n = n} (is_mixed a us) c h (inr w) = used_over (is_mixed a us) c h (in_long us k n w)
content_over {k = k} {n = n} (is_children p) c h w = elim (at_wide p 16 k n w) [
  | inl l ↦ used_over (is_children p) c h l
  | inr l ↦ deep_group (rw l.1 at h) c l.0
]

declaration_over : {t : List ℕ} {k n : ℕ} (d : Declaration) → Holds t n d → DeclarationLimit d k n → limits.Over t k
declaration_over d h (inl w) = long_name (rw w.2 at h) declared_name w.1 w.0
declaration_over d h (inr w) = content_over d.content refl h w

holds_of : {t u : List ℕ} {n i : ℕ} {d e : Declaration} {ds : List Declaration} → n ≤ length t → Agree t u n → Items u 0 (e ∷ ds) → Nth (e ∷ ds) i d → Holds t n d
holds_of {t} {u} {n} {i} {d} {e} {ds} l h x r = record { head = e; tail = ds; begins = record { inside = l; more_bytes = drop n u; text = rw (begins_so t u n h) (record { items = x }) }; number = i; there = r }

plainly : {u : List ℕ} {j k : ℕ} → FromItems false 0 (limit j k) u → FromItems false 0 plain u
plainly x = record { trees = x.trees; items = x.items; enough = x.enough; limits = tt }

whole : {u : List ℕ} {d : Declaration} {ds : List Declaration} → Text u d ds → FromItems false 0 plain u
whole {d = d} {ds = ds} g = record { trees = d ∷ ds; items = g.items; enough = tt; limits = tt }

no_stop : {t : List ℕ} {j k : ℕ} → Viable t k → j < k → ¬ Stops t j
no_stop v l (at_byte h w f) = f (viable_less (omega arith) v)
no_stop v l (at_end e w f) = omega (arith, v.begins.inside)

-- the first 65,538 bytes of a text
module _ (t p : List ℕ) (n : ℕ) (cut : n ≡ min (length t) 65538) (is : p ≡ take n t) where
  p_length : length p ≡ n
  p_length = omega (arith, ap {A = List ℕ} length is, length-take n t)

  peek_same : (i : ℕ) → i < 65538 → peek p i ≡ peek t i
  peek_same i l = elim (le_or_lt n i) [
    | inl h ↦ peek_end p i (omega (arith, p_length)) ∙ sym (peek_end t i (omega arith))
    | inr h ↦ ap {A = List ℕ} (λ l. peek l i) is ∙ peek_take t n i h
  ]

  near : {u : List ℕ} {k : ℕ} → k ≤ 65538 → Agree p u k → Agree t u k
  near h a = record { same = λ i l. a.same i l ∙ peek_same i (omega arith) }

  back : {u : List ℕ} {k : ℕ} → k ≤ 65538 → Agree t u k → Agree p u k
  back h a = record { same = λ i l. a.same i l ∙ sym (peek_same i (omega arith)) }

  -- a limit
  exceeds_over : {k : ℕ} → Exceeds (FromItems false) p 0 k → limits.Over t k
  exceeds_over {k} x = go x.part.trees x.part.items x.part.limits
    where
      go : (ds : List Declaration) → Items x.other 0 ds → InSome (limit k x.size) ds → limits.Over t k
      go [] i w = absurd w
      go (e ∷ ds) i w =
          let r = limit_nth k x.size (e ∷ ds) w in
          declaration_over r.1.0 (holds_of (omega (arith, p_length, x.inside)) (near (omega (arith, p_length, x.inside)) x.alike) i r.1.1) r.1.2

  -- the bytes that were read can stand
  viable_of : {u : List ℕ} {k : ℕ} → k ≤ n → Agree p u k → FromItems false 0 plain u → Viable t k
  viable_of {u} {k} l h x = go x.trees x.items x.enough
    where
      go : (ds : List Declaration) → Items u 0 ds → Enough false ds → Viable t k
      go [] i m = absurd m
      go (e ∷ ds) i m = record { head = e; tail = ds; begins = record { inside = omega arith; more_bytes = drop k u; text = rw (begins_so t u k (near (omega arith) h)) (record { items = i }) } }

  stuck_stops : {k : ℕ} → k ≤ 65536 → Stuck (FromItems false) p 0 k → Stops t k
  stuck_stops {k} h x = go (le_or_lt (length t) k)
    where
      can : Viable t k
      can = viable_of (omega (arith, p_length, x.inside)) x.alike x.part

      go : (length t ≤ k) ⊎ (k < length t) → Stops t k
      go (inr l) = at_byte l can (λ v. x.cannot (take (suc k) t ++ v.begins.more_bytes) (back (omega arith) (agree_so t v.begins.more_bytes (suc k) l)) (whole v.begins.text))
      go (inl l) = at_end (omega (arith, p_length, x.inside)) can (λ d ds g. x.cannot t (back (omega arith) (agree_same t (suc k))) (whole g))

  -- no limit before k, byte 65,536 apart
  free_not_over : {k : ℕ} → Free (FromItems false) p 0 k → (j : ℕ) → j < k → j < 65536 → ¬ limits.Over t j
  free_not_over f j l m o = elim (over_passing o) [
    | inl x ↦ f.none j x.size l x.order x.other (back (omega (arith, x.close)) x.alike) x.part
    | inr e ↦ omega arith
  ]

  -- an answer within the first 65,536 bytes, and one behind them
  pub scanned : (r : Result ℕ Stop) → place_of r ≤ 65536 → ItemsRead p r → Scanned t r
  scanned (Ok e) l x = (omega (arith, x.ends, p_length), text_of (reads_moves x.read))
    where
      all : p ≡ t
      all = is ∙ take_all n t (omega (arith, x.ends, p_length))

      text_of : Moves (FromItems false) Nothing p 0 e → Read t
      text_of m = go (m.up plain p (agree_same p e) (record { ended = x.ends; no_limit = refl }))
        where
          late : (k : ℕ) → ¬ limits.Over t k
          late k o = free_not_over m.free k (omega (arith, over_within o, x.ends, p_length)) (omega (arith, over_within o, x.ends, p_length)) o

          from : (ds : List Declaration) → Items p 0 ds → Enough false ds → Read t
          from [] i f = absurd f
          from (d ∷ ds) i f = record { head = d; tail = ds; text = record { items = rw all at i }; small = late }

          go : FromItems false 0 plain p → Read t
          go y = from y.trees y.items y.enough
  scanned (Err (Bad k)) l x = of x.read
    where
      of : Reads (FromItems false) Nothing p 0 (Err (Bad k)) → Stopped t k
      of (bad s f) = record { stops = stuck_stops l s; first = λ j h. free_not_over f j h (omega arith) }
  scanned (Err (Over k)) l x = of x.read
    where
      of : Reads (FromItems false) Nothing p 0 (Err (Over k)) → Passed t k
      of (over s f) = record {
        passes = exceeds_over s;
        first = λ j h. free_not_over f j h (omega arith);
        before = λ j h. no_stop (viable_of {k = s.size} (omega (arith, p_length, s.inside)) s.alike (plainly s.part)) (omega (arith, s.order));
      }

  pub too_long : (r : Result ℕ Stop) → 65536 < place_of r → ItemsRead p r → Passed t 65536
  too_long r l x = go r l x.ends x.read
    where
      passed : {k : ℕ} → 65536 < k → Free (FromItems false) p 0 k → Viable t 65537 → Passed t 65536
      passed h f v = record { passes = long_text refl v.begins.inside; first = λ j i. free_not_over f j (omega arith) i; before = λ j i. no_stop v (omega arith) }

      go : (r : Result ℕ Stop) → 65536 < place_of r → EndsAt p r → Reads (FromItems false) Nothing p 0 r → Passed t 65536
      go (Ok e) h y (got m) = passed h m.free (viable_of (omega (arith, y, p_length)) (agree_same p 65537) (m.up plain p (agree_same p e) (record { ended = y; no_limit = refl })))
      go (Err (Bad k)) h y (bad s f) = passed h f (viable_of (omega (arith, s.inside, p_length)) (agree_less (omega arith) s.alike) s.part)
      go (Err (Over k)) h y (over s f) = passed h f (viable_of (omega (arith, s.order, s.inside, p_length)) (agree_less (omega (arith, s.order)) s.alike) (plainly s.part))
