-- Names, particles and rows in code, for every tree of the text. Assumes nothing.
use Rattle.std.proofs.Common.{ℕ, suc, ◌≤◌, min, ◌≡◌, refl, sym, ◌∙◌, inl, Bool, true, false, ◌||◌, cond, List, [], ◌∷◌, ◌++◌, append-nil, append_assoc, arith, length}
use Prim.Native.Char.{code}
use lib.ListN.{length-map}
use Rattle.grammar.specs.Bytes.{is_space, is_name_start, is_name_byte, Byte, Of, go_on}
use Rattle.grammar.specs.Tree.{Mark, Particle, more, Declaration}
use Rattle.grammar.specs.Grammar.{Blanks, Name, MarkAt, Cp, cp_name, cp_group, Children, as_choice, as_sequence}
use Rattle.grammar.proofs.Pieces.{After, off, span_unique, mark_ends_name}
use Rattle.grammar.proofs.Unique.{row_no_space}
use Rattle.model.specs.Model.{Model, element, marked, either_of, in_order_of, model_of, models_of}
use Rattle.model.specs.Tables.{same_name, number_in, names_of, number_of}
use Rattle.scan.specs.Steps.Readers.{BlanksRead}
use Rattle.scan.proofs.Agreeing.{span_le}
use Rattle.names.specs.Steps.Names.{NumberRead}
use Rattle.names.specs.Steps.Pieces.{NameEnd}
use Rattle.code.proofs.Shifting.{drops}
use Rattle.write.specs.Steps.Code.{word_of, code_of}
use Rattle.code.specs.Steps.Holding.{Emits, Inserts}
use Rattle.code.specs.Steps.Putting.{Known, Ends, Shallow, NamePut, ParticlePut, GroupPut, MarkPut}

-- one word behind what was held
pub emits_one : {before after : List ℕ} {size w grown : ℕ} → Inserts before size size w after grown → Emits (w ∷ []) before size after grown
emits_one i = record { holds = λ l h. i.holds l [] h.sized (rw (append-nil l) h) }

pub emits_none : {before : List ℕ} {size : ℕ} → Emits [] before size before size
emits_none = record { holds = λ l h. rw (append-nil l) h }

pub emits_on : {c d before mid after : List ℕ} {m n o : ℕ} → Emits c before m mid n → Emits d mid n after o → Emits (c ++ d) before m after o
emits_on {c} {d} x y = record { holds = λ l h. (rw (append_assoc l c d) at (y.holds (l ++ c) (x.holds l h))) }

pub ends_on : {t before mid after : List ℕ} {a b c : ℕ} → Ends t a b before mid → Ends t b c mid after → Ends t a c before after
ends_on x y = record { from = omega (arith, x.from, y.from); inside = y.inside; kept = y.kept ∙ x.kept }

-- white space that is followed by no more of it ends where it was found to end
pub same_blanks : {t : List ℕ} {a b c : ℕ} → BlanksRead t a b → Blanks t a c → ¬ Of is_space t c → b ≡ c
same_blanks x s f = span_unique x.blanks s x.over f

-- a name's whole span
or_left : (x y : Bool) → x ≡ true → (x || y) ≡ true
or_left x y e = rw e

name_start : {t : List ℕ} {a : ℕ} → Of is_name_start t a → Of is_name_byte t a
name_start {t} {a} o = record { within = o.within; is = or_left _ _ o.is }

pub same_end : {t n : List ℕ} {a e f : ℕ} → NameEnd t a e → Name t a f n → ¬ Of is_name_byte t f → e ≡ f
same_end x y g = span_unique x.bytes (go_on (name_start y.start) y.rest) x.over g

number_most : (names : List (List ℕ)) (n : List ℕ) → number_in names n ≤ length names
unfolding number_in
number_most [] n = omega arith
number_most (m ∷ ms) n = go (number_most ms n) (same_name m n)
  where
    go : number_in ms n ≤ length ms → (b : Bool) → cond b 0 (suc (number_in ms n)) ≤ suc (length ms)
    go h true = omega arith
    go h false = omega arith

number_few : (ds : List Declaration) (n : List ℕ) → number_of ds n ≤ length ds
number_few ds n = omega (arith, number_most (names_of ds) n, length-map {A = Declaration} {B = List ℕ} ds (λ d. d.named))

pub name_put : {t list before after : List ℕ} {count at size r w e grown : ℕ} → at ≤ length t → NameEnd t at e → NumberRead t list count at r → (r ≤ 256 → w ≡ r)
    → Inserts before size size w after grown → NamePut t list count at before size after e grown
name_put {before = before} {after = after} {size = size} {r = r} {w = w} {grown = grown} j x y f i = record {
  ends = record { from = span_le x.bytes; inside = x.inside j; kept = i.kept };
  of = λ ds k n e z g. (let q = y.of ds n k.all k.few k.listed (record { end = e; is_name = z; over = g }) in
      let v : w ≡ word_of 0 (number_of ds n) = omega (arith, q, f (omega (arith, q, number_few ds n, k.all, k.few))) in
      (same_end x z g, rw v at (emits_one i)));
}

pub name_dropped : {t list before : List ℕ} {count at size e grown : ℕ} → at ≤ length t → NameEnd t at e → 1280 ≤ size → grown ≡ min (suc size) 1281
    → NamePut t list count at before size before e grown
name_dropped j x h g = record {
  ends = record { from = span_le x.bytes; inside = x.inside j; kept = refl };
  of = λ ds k n e z o. (same_end x z o, emits_one (drops h g));
}

-- a particle that is a name, and one that is a group
module _ {t list before mid after : List ℕ} {count depth at size : ℕ} where
  pub particle_named : {e m end grown : ℕ} → ¬ Byte t at (code "(") → NamePut t list count at before size mid e m → MarkPut t e size mid m after end grown
      → ParticlePut t list count depth at before size after end grown
  particle_named {e} {m} {end} {grown} f x y = record { ends = ends_on x.ends y.ends; of = λ ds k p b c a s. of ds k c a }
    where
      no_group : {b : ℕ} {p : Particle} → Children t at b p → ⊥
      no_group (as_choice g s r k) = f g
      no_group (as_sequence g s r k) = f g

      of : (ds : List Declaration) → Known t list count ds → {p : Particle} {b : ℕ} → Cp t at b p → After t b → (end ≡ b) × Emits (code_of (number_of ds) (model_of p)) before size after grown
      of ds k (cp_name {b = c} {n = n} {k = l} g q) a =
          let u = x.of ds k n c g (mark_ends_name q (λ r. a.no_name)) in
          let v = y.of (number_of ds) (element n) l _ (rw (sym u.0) at q) a in
          (v.0, record { holds = λ l h. v.1 l h.sized (u.1.holds l h) })
      of ds k (cp_group c) a = absurd (no_group c)

  pub particle_group : {b e m end grown below : ℕ} → depth ≡ suc below → Byte t at (code "(") → BlanksRead t (suc at) b → GroupPut t list count below b before size mid e m
      → MarkPut t e size mid m after end grown → ParticlePut t list count depth at before size after end grown
  particle_group {b} {e} {m} {end} {grown} {below} d g s x y = record {
    ends = ends_on (record { from = omega (arith, span_le s.blanks, x.ends.from); inside = x.ends.inside; kept = x.ends.kept }) y.ends;
    of = λ ds k p c q a f. of ds k q a (λ i z. f i (rw d z));
  }
    where
      behind : (ds : List Declaration) (w : Model) {f h : ℕ} {l : Mark} → (e ≡ f) × Emits (code_of (number_of ds) w) before size mid m → MarkAt t f h l → After t h
          → (end ≡ h) × Emits (code_of (number_of ds) (marked l w)) before size after grown
      behind ds w {f} {h} {l} u q a =
          let v = y.of (number_of ds) w l h (rw (sym u.0) at q) a in
          (v.0, record { holds = λ j i. v.1 j i.sized (u.1.holds j i) })

      of : (ds : List Declaration) → Known t list count ds → {p : Particle} {c : ℕ} → Cp t at c p → After t c → Shallow (suc below) p → (end ≡ c) × Emits (code_of (number_of ds) (model_of p)) before size after grown
      of ds k (cp_name n q) a f = absurd (off g refl n.start)
      of ds k (cp_group (as_choice {p = p} {ps = ps} h w r q)) a f = behind ds (either_of (models_of (more p ps))) (x.choices ds k p ps _ (rw (sym (same_blanks s w (row_no_space r))) at r) f) q a
      of ds k (cp_group (as_sequence {ps = ps} h w r q)) a f = behind ds (in_order_of (models_of ps)) (x.sequences ds k ps _ (rw (sym (same_blanks s w (row_no_space r))) at r) f) q a

-- a group where none is allowed
pub particle_deep : {t list before : List ℕ} {count at size : ℕ} (depth : ℕ) → depth ≡ 0 → Byte t at (code "(") → at ≤ length t
    → ParticlePut t list count depth at before size before at size
particle_deep {t} {list} {before} {count} {at} {size} depth e g l = record { ends = record { from = omega arith; inside = l; kept = refl }; of = λ ds k p b c a s. absurd (no c (λ i. rw e at (s i))) }
  where
    no : {b : ℕ} {p : Particle} → Cp t at b p → Shallow 0 p → ⊥
    no (cp_name n q) s = off g refl n.start
    no (cp_group (as_choice {a = a} h w r q)) s = s a (inl refl)
    no (cp_group (as_sequence {a = a} h w r q)) s = s a (inl refl)
