-- Moves from claim to claim, one after another; how a text that was read so far can go on. Assumes nothing.
use Rattle.std.proofs.Common.{ℕ, suc, ◌≤◌, ◌<◌, ◌≡◌, ◌⊎◌, inl, inr, Bool, List, ◌++◌, arith, length, take, length-append, length-take, Result, Err}
use Rattle.grammar.specs.Bytes.{Of, Literal}
use Rattle.scan.specs.Steps.Agree.{Agree}
use Rattle.scan.specs.Steps.Claims.{Mode, plain, limit, Claim, With, behind_it, in_it, Then, Piece, Or, this, that}
use Rattle.scan.specs.Steps.Moves.{Exceeds, Free, Moves, Reads, got, bad, over}
use Rattle.scan.specs.declared.Stop.{Stop}
use Rattle.scan.specs.declared.Stop.TheVariants.{Bad}
use Rattle.grammar.proofs.Stopping.{le_or_lt}
use Rattle.scan.proofs.Agreeing.{agree_less, agree_on, agree_append, agree_take, literal_appended}

-- one after another
pub free_on : {P Q : Claim} {t : List ℕ} {a b k : ℕ} → Moves P Q t a b → Free Q t b k → Free P t a k
free_on {b = b} x f = record {
  none = λ j n l o u h p. elim (le_or_lt b j) [
    | inl g ↦ f.none j n l o u h (x.down (limit j n) u (agree_less (omega arith) h) p)
    | inr g ↦ x.free.none j n g o u h p
  ];
}

pub moves_on : {P Q R : Claim} {t : List ℕ} {a b c : ℕ} → Moves P Q t a b → Moves Q R t b c → Moves P R t a c
moves_on x y = record {
  from = omega (arith, x.from, y.from);
  inside = y.inside;
  up = λ m u h r. x.up m u (agree_less y.from h) (y.up m u h r);
  down = λ m u h p. y.down m u h (x.down m u (agree_less (omega (arith, y.from)) h) p);
  free = free_on x y.free;
}

pub reads_on : {P Q R : Claim} {t : List ℕ} {a b : ℕ} {r : Result ℕ Stop} → Moves P Q t a b → Reads Q R t b r → Reads P R t a r
reads_on x (got y) = got (moves_on x y)
reads_on x (bad {k} y f) = bad {k = k} (record {
  from = omega (arith, x.from, y.from);
  inside = y.inside;
  other = y.other;
  alike = y.alike;
  part = x.up plain y.other (agree_less y.from y.alike) y.part;
  cannot = λ u h p. y.cannot u h (x.down plain u (agree_less (omega (arith, y.from)) h) p);
}) (free_on x f)
reads_on x (over {k} y f) = over {k = k} (record {
  from = omega (arith, x.from, y.from);
  size = y.size;
  order = y.order;
  inside = y.inside;
  other = y.other;
  alike = y.alike;
  part = x.up (limit k y.size) y.other (agree_less (omega (arith, y.from, y.order)) y.alike) y.part;
}) (free_on x f)

-- a text that goes on as K behind p
pub record Completed (K : Claim) (p : List ℕ) : Type 0 where
  pub other : List ℕ
  pub alike : Agree p other (length p)
  pub part : K (length p) plain other

-- limits lie at a or behind it, and each text can go on
pub record Good (K : Claim) : Type 0 where
  pub behind : (a j n : ℕ) (u : List ℕ) → K a (limit j n) u → a ≤ j
  pub complete : (p : List ℕ) → Completed K p

pub free_before : {K : Claim} → Good K → (t : List ℕ) (a : ℕ) → Free K t a a
free_before g t a = record { none = λ j n l o u h p. (let z = g.behind a j n u p in omega arith) }

-- the first b bytes can go on
pub record Goes (K : Claim) (t : List ℕ) (b : ℕ) : Type 0 where
  pub other : List ℕ
  pub alike : Agree t other b
  pub part : K b plain other

pub goes_on : {K : Claim} → Good K → (t : List ℕ) (b : ℕ) → b ≤ length t → Goes K t b
goes_on g t b l =
    let c = g.complete (take b t) in
    let n : length (take b t) ≡ b = omega (arith, length-take b t) in
    record { other = c.other; alike = agree_on (agree_take t b) (rw n at c.alike); part = rw n at c.part }

-- nothing of K begins with what stands at a
pub stuck_here : {K Q : Claim} → Good K → (t : List ℕ) (a : ℕ) → a ≤ length t → ((u : List ℕ) → Agree t u (suc a) → ¬ K a plain u) → Reads K Q t a (Err (Bad a))
stuck_here g t a l f =
    let c = goes_on g t a l in
    bad {k = a} (record { from = omega arith; inside = l; other = c.other; alike = c.alike; part = c.part; cannot = f }) (free_before g t a)

-- as the bytes up to b tell, a limit is passed at k
pub exceeds_by : {P Q : Claim} → Good Q → (t : List ℕ) (a k b : ℕ) → a ≤ k → k < b → b ≤ length t
    → ((u : List ℕ) → Agree t u b → Q b plain u → P a (limit k b) u) → Exceeds P t a k
exceeds_by g t a k b h l i f =
    let c = goes_on g t b i in
    record { from = h; size = b; order = l; inside = i; other = c.other; alike = c.alike; part = f c.other c.alike c.part }

-- what stands at a decides which claim is left, and nothing is read
pub turn : {P Q : Claim} {t : List ℕ} {a : ℕ} → Good P → a ≤ length t → ((m : Mode) (u : List ℕ) → Agree t u a → Q a m u → P a m u)
    → ((m : Mode) (u : List ℕ) → Agree t u (suc a) → P a m u → Q a m u) → Moves P Q t a a
turn {t = t} {a = a} g l i o = record { from = omega arith; inside = l; up = i; down = o; free = free_before g t a }

-- one byte is read
pub step : {P Q : Claim} {t : List ℕ} {a : ℕ} → Good P → Good Q → a < length t → ((m : Mode) (u : List ℕ) → Agree t u (suc a) → Q (suc a) m u → P a m u)
    → ((m : Mode) (u : List ℕ) → Agree t u (suc a) → P a m u → Q (suc a) m u) → Moves P Q t a (suc a)
step {a = a} g k l i o = record {
  from = omega arith;
  inside = l;
  up = i;
  down = λ m u h p. o m u (agree_less (omega arith) h) p;
  free = record {
    none = λ j n h x u y p. (let w = g.behind a j n u p in
        let z = k.behind (suc a) j n u (o (limit j n) u (agree_less (omega arith) y) p) in omega arith);
  };
}

-- a limit in a piece and what follows it
pub with_map : {L M : ℕ → ℕ → Type 0} {P Q : Mode → Type 0} {m : Mode} → ((o : Mode) → P o → Q o) → ((j n : ℕ) → L j n → M j n) → With L P m → With M Q m
with_map {m = m} f g (behind_it x) = behind_it (f m x)
with_map f g (in_it {j} {n} x l) = in_it (f plain x) (g j n l)

pub with_never : {L : ℕ → ℕ → Type 0} {P : Mode → Type 0} {m : Mode} → ((j n : ℕ) → ¬ L j n) → With L P m → P m
with_never f (behind_it x) = x
with_never f (in_it {j} {n} x l) = absurd (f j n l)

-- a word that is a piece wherever it stands
pub record Sample (R : List ℕ → ℕ → ℕ → Type 0) : Type 0 where
  pub word : List ℕ
  pub is : (u : List ℕ) (a b : ℕ) → Literal u word a b → R u a b

pub good_piece : {R : List ℕ → ℕ → ℕ → Type 0} {K : Claim} → ((u : List ℕ) (a b : ℕ) → R u a b → a ≤ b) → Sample R → Good K → Good (Piece R K)
good_piece le s g = record {
  behind = λ a j n u p. (let z = g.behind p.end j n u p.rest in omega (arith, le u a p.end p.piece));
  complete = λ p. (let c = g.complete (p ++ s.word) in record {
    other = c.other;
    alike = agree_on (agree_append p s.word) (agree_less (omega (arith, length-append p s.word)) c.alike);
    part = record {
      end = length (p ++ s.word);
      piece = s.is c.other (length p) (length (p ++ s.word)) (literal_appended p s.word c.other c.alike);
      rest = c.part;
    };
  });
}

pub good_then : {X : Type 0} {R : List ℕ → ℕ → ℕ → X → Type 0} {L : ℕ → X → ℕ → ℕ → Type 0} {K : Claim}
    → ((u : List ℕ) (a b : ℕ) (x : X) → R u a b x → a ≤ b) → ((u : List ℕ) (a b : ℕ) (x : X) (j n : ℕ) → R u a b x → L a x j n → a ≤ j)
    → Sample (λ u a b. (x : X) × R u a b x) → Good K → Good (Then R L K)
good_then {X} {R} {L} {K} le low s g = record {
  behind = λ a j n u p. after p.piece p.rest;
  complete = λ p. (let c = g.complete (p ++ s.word) in
      let x = s.is c.other (length p) (length (p ++ s.word)) (literal_appended p s.word c.other c.alike) in
      record {
        other = c.other;
        alike = agree_on (agree_append p s.word) (agree_less (omega (arith, length-append p s.word)) c.alike);
        part = record { end = length (p ++ s.word); tree = x.0; piece = x.1; rest = behind_it c.part };
      });
}
  where
    after : {a b j n : ℕ} {u : List ℕ} {x : X} → R u a b x → With (L a x) (λ o. K b o u) (limit j n) → a ≤ j
    after {a} {b} {j} {n} {u} {x} r (behind_it q) = let z = g.behind b j n u q in omega (arith, le u a b x r)
    after {a} {b} {j} {n} {u} {x} r (in_it q l) = low u a b x j n r l

pub good_or : {P Q : Claim} → Good P → Good Q → Good (Or P Q)
good_or {P} {Q} g h = record {
  behind = low;
  complete = λ p. (let c = g.complete p in record { other = c.other; alike = c.alike; part = this c.part });
}
  where
    low : (a j n : ℕ) (u : List ℕ) → Or P Q a (limit j n) u → a ≤ j
    low a j n u (this x) = g.behind a j n u x
    low a j n u (that x) = h.behind a j n u x

-- nothing of a class stands where K begins
pub record Avoids (class : ℕ → Bool) (K : Claim) : Type 0 where
  pub free_of : (a : ℕ) (m : Mode) (u : List ℕ) → K a m u → ¬ Of class u a

pub avoids_or : {class : ℕ → Bool} {P Q : Claim} → Avoids class P → Avoids class Q → Avoids class (Or P Q)
avoids_or {class} {P} {Q} f g = record { free_of = go }
  where
    go : (a : ℕ) (m : Mode) (u : List ℕ) → Or P Q a m u → ¬ Of class u a
    go a m u (this p) = f.free_of a m u p
    go a m u (that q) = g.free_of a m u q

pub with_two : {L M N : ℕ → ℕ → Type 0} {P : Mode → Type 0} {m : Mode} → ((j n : ℕ) → N j n → L j n ⊎ M j n) → With N P m → With L (With M P) m
with_two f (behind_it x) = behind_it (behind_it x)
with_two f (in_it {j} {n} x l) = elim (f j n l) [ inl i ↦ in_it (behind_it x) i | inr i ↦ behind_it (in_it x i) ]

pub then_map : {X : Type 0} {R : List ℕ → ℕ → ℕ → X → Type 0} {L : ℕ → X → ℕ → ℕ → Type 0} {J K : Claim} {a : ℕ} {m : Mode} {u : List ℕ} → ((b : ℕ) (o : Mode) → J b o u → K b o u) → Then R L J a m u → Then R L K a m u
then_map f p = record { end = p.end; tree = p.tree; piece = p.piece; rest = with_map (f p.end) (λ j n l. l) p.rest }
