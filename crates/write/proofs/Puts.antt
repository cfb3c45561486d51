-- Writing words one after another: records, children, and rows. Assumes nothing.
use Rattle.std.proofs.Common.{ℕ, zero, suc, ◌+◌, ◌-◌, ◌*◌, ◌%◌, ◌≤◌, ◌<◌, ◌≡◌, refl, ap, ◌∙◌, List, [], ◌∷◌, ◌++◌, append_assoc, append-nil, arith, length, set, drop, length-append}
use lib.Seq.{sets, length-sets}
use Rattle.write.specs.Steps.Reading.{Row, child_in, children_in, last_of, row_of, rest_of, free_of, Numbered, Skipped}
use Rattle.write.specs.Steps.Writing.{Puts, kids_of_rows, write_row, write_rows, Wrote}

pub puts_sized : {out out' : List ℕ} {i : ℕ} {ws : List ℕ} → Puts out i ws out' → length out ≡ 1800 → length out' ≡ 1800
puts_sized {out} {out'} {i} {ws} p h = ap (λ (l : List ℕ). length l) p.is ∙ length-sets out i ws ∙ h

sets_join : (out : List ℕ) (i j : ℕ) (xs ys : List ℕ) → j ≡ i + length xs → sets (sets out i xs) j ys ≡ sets out i (xs ++ ys)
sets_join out i j [] ys e = let q : j ≡ i = omega arith in rw q
sets_join out i j (x ∷ xs) ys e = sets_join (set out i x) (suc i) j xs ys (omega arith)

pub children_length : (n x : ℕ) (ws : List ℕ) → length (children_in n x ws) ≡ n
children_length zero x ws = refl
children_length (suc n) x ws = ap suc (children_length n (free_of ws 1 x) (rest_of ws 1))

pub last_length : (e y : ℕ) → e < 2 → length (last_of e y) ≡ e
last_length zero y l = refl
last_length (suc zero) y l = refl
last_length (suc (suc e)) y l = absurd (omega arith)

-- the loop has put i of n children from the place c on
pub record Putting (code : List ℕ) (n start : ℕ) (out₀ : List ℕ) (c x : ℕ) (out : List ℕ) (at free i : ℕ) : Type 0 where
  pub there : Numbered code at free
  pub size : length out ≡ 1800
  pub within : i ≤ n
  pub is : sets out (start + i) (children_in (n - i) free (drop at code)) ≡ sets out₀ start (children_in n x (drop c code))

pub putting_more : {code : List ℕ} {n start : ℕ} {out₀ : List ℕ} {c x : ℕ} {out : List ℕ} {at free i : ℕ}
    → Putting code n start out₀ c x out at free i → i < n → (child : ℕ) (out' : List ℕ) (at' free' : ℕ) → child ≡ child_in free (drop at code)
    → Puts out (start + i) (child ∷ []) out' → Skipped code at free at' free' → Putting code n start out₀ c x out' at' free' (i + 1)
putting_more {n = n} {start = start} {i = i} h l child out' at' free' e f s =
    let left : n - i ≡ suc (n - (i + 1)) = omega arith in
    let next : start + (i + 1) ≡ suc (start + i) = omega arith in
    record {
      there = s.there;
      size = puts_sized f h.size;
      within = omega arith;
      is = rw (next, s.rest, s.free, f.is, e) (rw left at h.is);
    }

-- rows one after another
writing_joins : (base t k t' k' : ℕ) (rs ss : List Row) (out : List ℕ) → t' ≡ t + length rs → k' ≡ k + length (kids_of_rows rs)
    → write_rows base t' k' ss (write_rows base t k rs out) ≡ write_rows base t k (rs ++ ss) out
writing_joins base t k t' k' [] ss out e f = let p : t' ≡ t = omega arith in let q : k' ≡ k = omega arith in rw (p, q)
writing_joins base t k t' k' (r ∷ rs) ss out e f =
    writing_joins base (t + 1) (k + length r.kids) t' k' rs ss (write_row base t k r out) (omega arith)
    (omega (arith, length-append r.kids (kids_of_rows rs)))

kids_join : (rs ss : List Row) → kids_of_rows (rs ++ ss) ≡ kids_of_rows rs ++ kids_of_rows ss
kids_join [] ss = refl
kids_join (r ∷ rs) ss = rw (kids_join rs ss, append_assoc r.kids (kids_of_rows rs) (kids_of_rows ss))

pub kids_sum : (rs ss : List Row) → length (kids_of_rows (rs ++ ss)) ≡ length (kids_of_rows rs) + length (kids_of_rows ss)
kids_sum rs ss = rw (kids_join rs ss) (length-append (kids_of_rows rs) (kids_of_rows ss))

pub wrote_then : {base : ℕ} (rs ss : List Row) {t k : ℕ} {out : List ℕ} {t' k' : ℕ} {out' : List ℕ} {t'' k'' : ℕ} {out'' : List ℕ}
    → Wrote base rs t k out t' k' out' → Wrote base ss t' k' out' t'' k'' out'' → Wrote base (rs ++ ss) t k out t'' k'' out''
wrote_then {base} rs ss {t} {k} {out} {t'} {k'} g h = record {
  is = h.is ∙ rw g.is (writing_joins base t k t' k' rs ss out g.types g.kids);
  types = omega (arith, g.types, h.types, length-append rs ss);
  kids = omega (arith, g.kids, h.kids, kids_sum rs ss);
}

pub row_wrote : (kind n e y : ℕ) (ws : List ℕ) {base t k : ℕ} {out a b c : List ℕ}
    → Puts out (8 + 3 * t) (kind ∷ (n + e) % 65536 ∷ k % 65536 ∷ []) a → Puts a (base + k) (children_in n y ws) b
    → Puts b (base + k + n) (last_of e y) c → e < 2 → Wrote base (row_of kind n e y ws ∷ []) t k out (t + 1) (k + (n + e)) c
unfolding write_row
row_wrote kind n e y ws {base} {t} {k} {out} {a} {b} {c} f g h few =
    let ks = children_in n y ws in
    let size : length (ks ++ last_of e y) ≡ n + e = omega (arith, length-append ks (last_of e y), children_length n y ws, last_length e y few) in
    let joined = sets_join a (base + k) (base + k + n) ks (last_of e y) (omega (arith, children_length n y ws)) in
    record {
      is = h.is ∙ rw (g.is, joined, size) (ap (λ (l : List ℕ). sets l (base + k) (ks ++ last_of e y)) f.is);
      types = omega arith;
      kids = rw (append-nil (ks ++ last_of e y), size);
    }
