-- Rows of particles in code: the first one, the others one after another, and the operator before them. Assumes nothing.
use Rattle.std.proofs.Common.{ℕ, suc, ◌+◌, ◌*◌, ◌≤◌, min, ◌≡◌, refl, sym, ◌∙◌, ap, ◌≢◌, ◌⊎◌, inl, inr, List, [], ◌∷◌, ◌++◌, append-nil, append_assoc, arith, length, length-append}
use Prim.Native.Char.{code}
use Rattle.grammar.specs.Bytes.{is_space, Byte, Of}
use Rattle.grammar.specs.Tree.{Particle, Particles, last, more, Declaration}
use Rattle.grammar.specs.Grammar.{Blanks, Cp, Row, closed, separated}
use Rattle.grammar.proofs.Pieces.{After, clash, off, after_blanks}
use Rattle.grammar.proofs.Unique.{Separator, bar, comma, cp_no_space}
use Rattle.model.specs.Model.{either_of, in_order_of, model_of, models_of}
use Rattle.model.specs.Tables.{number_of}
use Rattle.scan.specs.Steps.Readers.{BlanksRead}
use Rattle.scan.proofs.Agreeing.{span_le}
use Rattle.scan.proofs.Orders.{cp_lt}
use Rattle.write.specs.Steps.Code.{count_of, code_of, code_of_each}
use Rattle.code.specs.Steps.Holding.{Sized, Holds, Emits, Inserts}
use Rattle.code.specs.Steps.Putting.{Known, Ends, Shallow, AllShallow, CloseRead, passed, left, ParticlePut, GroupPut, RowRest, ended, another, EachShallow, codes_of, RestPut}
use Rattle.code.proofs.Particles.{emits_none, emits_on, ends_on, same_blanks}

-- the first particle, and the others as a list
abbrev head_of : Particles → Particle
head_of (last p) = p
head_of (more p ps) = p

abbrev tail_of : Particles → List Particle
tail_of (last p) = []
tail_of (more p ps) = head_of ps ∷ tail_of ps

record RowView (t : List ℕ) (s a e : ℕ) (p : Particle) (qs : List Particle) : Type 0 where
  mid : ℕ
  next : ℕ
  first : Cp t a mid p
  blanks : Blanks t mid next
  rest : RowRest t s next e qs

row_view : {t : List ℕ} {s a e : ℕ} {ps : Particles} → Row t s a e ps → RowView t s a e (head_of ps) (tail_of ps)
row_view (closed {b = b} {c = c} x w g) = record { mid = b; next = c; first = x; blanks = w; rest = ended g }
row_view (separated {b = b} {c = c} x w g v r) =
    let y = row_view r in
    record { mid = b; next = c; first = x; blanks = w; rest = another g v y.first y.blanks y.rest }

each_code : (number : List ℕ → ℕ) (ps : Particles) → code_of_each number (models_of ps) ≡ code_of number (model_of (head_of ps)) ++ codes_of number (tail_of ps)
each_code number (last p) = sym (append-nil (code_of number (model_of p)))
each_code number (more p ps) = ap (λ (l : List ℕ). code_of number (model_of p) ++ l) (each_code number ps)

each_count : (ps : Particles) → count_of (models_of ps) ≡ suc (length (tail_of ps))
each_count (last p) = refl
each_count (more p ps) = ap suc (each_count ps)

each_shallow : (depth : ℕ) (ps : Particles) → AllShallow depth ps → Shallow depth (head_of ps) × EachShallow depth (tail_of ps)
each_shallow depth (last p) f = (f, tt)
each_shallow depth (more p ps) f = ((λ i z. f i (inl z)), each_shallow depth ps (λ i z. f i (inr z)))

-- what stands behind a particle and white space
rest_byte : {t : List ℕ} {s b e : ℕ} {qs : List Particle} → RowRest t s b e qs → Byte t b (code ")") ⊎ Byte t b s
rest_byte (ended g) = inl g
rest_byte (another g v c w r) = inr g

rest_tight : {t : List ℕ} {s b e : ℕ} {qs : List Particle} → Separator s → RowRest t s b e qs → ¬ Of is_space t b
rest_tight x r = elim (rest_byte r) [ inl g ↦ off g refl | inr g ↦ off g x.no_space ]

rest_after : {t : List ℕ} {s a b e : ℕ} {qs : List Particle} → Separator s → Blanks t a b → RowRest t s b e qs → After t a
rest_after x w r = elim (rest_byte r) [ inl g ↦ after_blanks w g refl refl | inr g ↦ after_blanks w g x.no_name x.unmarked ]

data RestView (t : List ℕ) (s b e : ℕ) (qs : List Particle) : Type 0 where
  at_close : Byte t b (code ")") → e ≡ suc b → qs ≡ [] → RestView t s b e qs
  at_next : {c d f : ℕ} (p : Particle) (ps : List Particle) → qs ≡ p ∷ ps → Byte t b s → Blanks t (suc b) c → Cp t c d p → Blanks t d f → RowRest t s f e ps
      → RestView t s b e qs

rest_view : {t : List ℕ} {s b e : ℕ} {qs : List Particle} → RowRest t s b e qs → RestView t s b e qs
rest_view (ended g) = at_close g refl refl
rest_view (another {p = p} {qs = qs} g v c w r) = at_next p qs refl g v c w r

-- how far a row's other particles were put
pub record Progress (t list : List ℕ) (depth at s : ℕ) (before : List ℕ) (size : ℕ) (ds : List Declaration) (qs : List Particle) (e i n : ℕ) (buffer : List ℕ) (grown : ℕ) : Type 0 where
  pub done : List Particle
  pub rest : List Particle
  pub split : qs ≡ done ++ rest
  pub ahead : RowRest t s i e rest
  pub shallow : EachShallow depth rest
  pub number : n ≡ suc (length done)
  pub wide : at + 2 * length done ≤ i
  pub emits : Emits (codes_of (number_of ds) done) before size buffer grown

pub progress_start : {t list before : List ℕ} {depth at s size e : ℕ} {ds : List Declaration} {qs : List Particle} → RowRest t s at e qs → EachShallow depth qs
    → Progress t list depth at s before size ds qs e at 1 before size
progress_start {qs = qs} r f = record { done = []; rest = qs; split = refl; ahead = r; shallow = f; number = refl; wide = omega arith; emits = emits_none }

codes_more : (number : List ℕ → ℕ) (done : List Particle) (p : Particle) → codes_of number (done ++ (p ∷ [])) ≡ codes_of number done ++ code_of number (model_of p)
codes_more number [] p = append-nil (code_of number (model_of p))
codes_more number (q ∷ done) p = ap (λ (l : List ℕ). code_of number (model_of q) ++ l) (codes_more number done p) ∙ sym (append_assoc (code_of number (model_of q)) (codes_of number done) (code_of number (model_of p)))

module _ {t list before : List ℕ} {count depth at s size : ℕ} (x : Separator s) {ds : List Declaration} (k : Known t list count ds) {qs : List Particle} {e : ℕ} where
  pub progress_on : {i n d f c grown further : ℕ} {buffer after : List ℕ} → Byte t i s → BlanksRead t (suc i) d → ParticlePut t list count depth d buffer grown after f further → BlanksRead t f c
      → Progress t list depth at s before size ds qs e i n buffer grown → Progress t list depth at s before size ds qs e c (suc n) after further
  progress_on {i} {n} {d} {f} {c} {grown} {further} {buffer} {after} b v y w p = go (rest_view p.ahead)
    where
      go : RestView t s i e p.rest → Progress t list depth at s before size ds qs e c (suc n) after further
      go (at_close g z h) = absurd (x.open_still (clash b g))
      go (at_next o ps z g u r m l) =
          let a = same_blanks v u (cp_no_space r) in
          let sh : EachShallow depth (o ∷ ps) = rw z at p.shallow in
          let h = y.of ds k o _ (rw (sym a) at r) (rest_after x m l) sh.0 in
          let j = same_blanks w (rw (sym h.0) at m) (rest_tight x l) in
          record {
            done = p.done ++ (o ∷ []);
            rest = ps;
            split = p.split ∙ ap (λ (q : List Particle). p.done ++ q) z ∙ sym (append_assoc p.done (o ∷ []) ps);
            ahead = rw (sym j) at l;
            shallow = sh.1;
            number = omega (arith, p.number, length-append p.done (o ∷ []));
            wide = omega (arith, p.wide, length-append p.done (o ∷ []), span_le v.blanks, cp_lt r, a, h.0, span_le w.blanks);
            emits = rw (codes_more (number_of ds) p.done o) (emits_on p.emits h.1);
          }

  -- at the ')'
  pub progress_ends : {i n end w start grown further : ℕ} {buffer after : List ℕ} (kind : ℕ) (c : List ℕ) → ¬ Byte t i s → i ≤ length t → CloseRead t i end → w ≡ kind + min n 65535
      → Inserts buffer grown start w after further → Progress t list depth at s before size ds qs e i n buffer grown
      → (end ≡ e) × ((l : List ℕ) → Sized start l → Holds before size (l ++ c) → Holds after further (l ++ ((kind + suc (length qs)) ∷ (c ++ codes_of (number_of ds) qs))))
  progress_ends {i} {n} {end} {w} {start} {grown} {further} {buffer} {after} kind c f h v q y p = go (rest_view p.ahead)
    where
      passed_it : {i end : ℕ} → Byte t i (code ")") → CloseRead t i end → end ≡ suc i
      passed_it g (passed z) = refl
      passed_it g (left z) = absurd (z g)

      put : (l : List ℕ) → Sized start l → Holds before size (l ++ c) → Holds after further (l ++ (w ∷ (c ++ codes_of (number_of ds) p.done)))
      put l o x = y.holds l (c ++ codes_of (number_of ds) p.done) o (rw (append_assoc l c (codes_of (number_of ds) p.done)) at (p.emits.holds (l ++ c) x))

      go : RestView t s i e p.rest → (end ≡ e) × ((l : List ℕ) → Sized start l → Holds before size (l ++ c) → Holds after further (l ++ ((kind + suc (length qs)) ∷ (c ++ codes_of (number_of ds) qs))))
      go (at_next o ps z g u r m l) = absurd (f g)
      go (at_close g z r) =
          let all : qs ≡ p.done = p.split ∙ ap (λ (q : List Particle). p.done ++ q) r ∙ append-nil p.done in
          let word : w ≡ kind + suc (length p.done) = omega (arith, q, p.number, p.wide, k.short) in
          (passed_it g v ∙ sym z, λ l o x. rw all (rw word at (put l o x)))

-- a group: its first particle was put, and white space stands behind it up to b
cons_path : {a b : ℕ} {l m : List ℕ} → a ≡ b → l ≡ m → a ∷ l ≡ b ∷ m
cons_path p q = λ i. p i ∷ q i

either_code : (number : List ℕ → ℕ) (p : Particle) (ps : Particles) → code_of number (either_of (models_of (more p ps))) ≡ (262144 + suc (length (tail_of (more p ps)))) ∷ (code_of number (model_of p) ++ codes_of number (tail_of (more p ps)))
either_code number p ps = cons_path (let e = each_count ps in omega arith) (ap (λ (l : List ℕ). code_of number (model_of p) ++ l) (each_code number ps))

in_order_code : (number : List ℕ → ℕ) (p : Particle) (ps : Particles) → code_of number (in_order_of (models_of (more p ps))) ≡ (196608 + suc (length (tail_of (more p ps)))) ∷ (code_of number (model_of p) ++ codes_of number (tail_of (more p ps)))
in_order_code number p ps = cons_path (let e = each_count ps in omega arith) (ap (λ (l : List ℕ). code_of number (model_of p) ++ l) (each_code number ps))

-- the place behind a ')' that may stand there
pub close_le : {t : List ℕ} {a e : ℕ} → CloseRead t a e → a ≤ e
close_le (passed z) = omega arith
close_le (left z) = omega arith

pub close_in : {t : List ℕ} {a e : ℕ} → CloseRead t a e → a ≤ length t → e ≤ length t
close_in (passed z) l = z.within
close_in (left z) l = l

record First (t : List ℕ) (depth b s : ℕ) (before : List ℕ) (size : ℕ) (mid : List ℕ) (grown : ℕ) (ds : List Declaration) (ps : Particles) (e : ℕ) : Type 0 where
  emits : Emits (code_of (number_of ds) (model_of (head_of ps))) before size mid grown
  ahead : RowRest t s b e (tail_of ps)
  shallow : EachShallow depth (tail_of ps)

module _ {t list before mid : List ℕ} {count depth at size m n b : ℕ} (x : ParticlePut t list count depth at before size mid m n) (w : BlanksRead t m b) where
  first_of_lem : {s e : ℕ} {ds : List Declaration} {ps : Particles} → Separator s → Known t list count ds → Row t s at e ps → AllShallow depth ps → First t depth b s before size mid n ds ps e
  first_of_lem {ds = ds} {ps = ps} z k r f =
      let v = row_view r in
      let sh = each_shallow depth ps f in
      let u = x.of ds k (head_of ps) v.mid v.first (rest_after z v.blanks v.rest) sh.0 in
      let j = same_blanks w (rw (sym u.0) at v.blanks) (rest_tight z v.rest) in
      record { emits = u.1; ahead = rw (sym j) at v.rest; shallow = sh.1 }

  here : Ends t at b before mid
  here = record { from = omega (arith, x.ends.from, span_le w.blanks); inside = w.inside; kept = x.ends.kept }

  other_byte : {s c e : ℕ} {ds : List Declaration} {ps : Particles} → First t depth b s before size mid n ds ps e → Byte t b c → c ≢ (code ")") → c ≢ s → ⊥
  other_byte y g f h = elim (rest_byte y.ahead) [ inl i ↦ f (clash g i) | inr i ↦ h (clash g i) ]

  module _ {after : List ℕ} {end grown : ℕ} where
    with_code : {c d : List ℕ} {e : ℕ} → Emits d before size mid n → (end ≡ e) × ((l : List ℕ) → Sized size l → Holds mid n (l ++ d) → Holds after grown (l ++ c))
        → (end ≡ e) × Emits c before size after grown
    with_code y z = (z.0, record { holds = λ l h. z.1 l h.sized (y.holds l h) })

    pub group_choice : Byte t b (code "|") → RestPut t list count depth b size (code "|") 262144 mid n after end grown → GroupPut t list count depth at before size after end grown
    group_choice g y = record {
      ends = ends_on here y.ends;
      choices = λ ds k p ps e r f. (let v = first_of_lem bar k r f in
          rw (either_code (number_of ds) p ps) (with_code v.emits (y.of ds k (code_of (number_of ds) (model_of p)) (tail_of (more p ps)) e v.ahead v.shallow)));
      sequences = λ ds k ps e r f. absurd (other_byte (first_of_lem comma k r f) g (λ z. omega arith) (λ z. omega arith));
    }

    pub group_sequence : Byte t b (code ",") → RestPut t list count depth b size (code ",") 196608 mid n after end grown → GroupPut t list count depth at before size after end grown
    group_sequence g y = record {
      ends = ends_on here y.ends;
      choices = λ ds k p ps e r f. absurd (other_byte (first_of_lem bar k r f) g (λ z. omega arith) (λ z. omega arith));
      sequences = λ ds k ps e r f. of ds k ps e r f;
    }
      where
        of : (ds : List Declaration) → Known t list count ds → (ps : Particles) (e : ℕ) → Row t (code ",") at e ps → AllShallow depth ps → (end ≡ e) × Emits (code_of (number_of ds) (in_order_of (models_of ps))) before size after grown
        of ds k (last p) e r f = absurd (closed_byte (first_of_lem comma k r f).ahead)
          where
            closed_byte : RowRest t (code ",") b e [] → ⊥
            closed_byte v = only (rest_view v)
              where
                only : RestView t (code ",") b e [] → ⊥
                only (at_close h z q) = let y = clash g h in omega arith
                only (at_next o os z h u c i j) = let y : ◌≡◌ {A = ℕ} 0 (suc (length os)) = ap {A = List Particle} length z in omega arith
        of ds k (more p ps) e r f = let v = first_of_lem comma k r f in
            rw (in_order_code (number_of ds) p ps) (with_code v.emits (y.of ds k (code_of (number_of ds) (model_of p)) (tail_of (more p ps)) e v.ahead v.shallow))

  pub group_single : {end : ℕ} → ¬ Byte t b (code "|") → ¬ Byte t b (code ",") → CloseRead t b end → GroupPut t list count depth at before size mid end n
  group_single {end} f g y = record {
    ends = record { from = omega (arith, here.from, close_le y); inside = close_in y w.inside; kept = x.ends.kept };
    choices = λ ds k p ps e r h. absurd (next_byte f (first_of_lem bar k r h).ahead);
    sequences = λ ds k ps e r h. of ds k ps e r h;
  }
    where
      next_byte : {s e : ℕ} {p : Particle} {qs : List Particle} → ¬ Byte t b s → RowRest t s b e (p ∷ qs) → ⊥
      next_byte h (another q u c i j) = h q

      closed_at : {s e : ℕ} → RowRest t s b e [] → end ≡ e
      closed_at (ended q) = passed_here y q
        where
          passed_here : {a c : ℕ} → CloseRead t a c → Byte t a (code ")") → c ≡ suc a
          passed_here (passed z) q = refl
          passed_here (left z) q = absurd (z q)

      of : (ds : List Declaration) → Known t list count ds → (ps : Particles) (e : ℕ) → Row t (code ",") at e ps → AllShallow depth ps → (end ≡ e) × Emits (code_of (number_of ds) (in_order_of (models_of ps))) before size mid n
      of ds k (last p) e r h = let v = first_of_lem comma k r h in (closed_at v.ahead, v.emits)
      of ds k (more p ps) e r h = absurd (next_byte g (first_of_lem comma k r h).ahead)
