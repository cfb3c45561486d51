-- Text that is put byte by byte, and one text behind another. Assumes nothing.
use Rattle.std.proofs.Common.{ℕ, suc, ◌+◌, ◌≤◌, ◌<◌, ◌≡◌, refl, sym, ap, subst, ◌∙◌, List, [], ◌++◌, append_assoc, arith, length, get_or, set, take, drop, length-append, drop-drop}
use Rattle.std.proofs.Math.Seq.{paste, paste-zero, paste-suc, length-paste, take-paste, drop-paste, take-length}
use Rattle.runs.specs.Putting.{Puts, Fits}

-- the first k elements are put
pub record Filled (d : List ℕ) (at : ℕ) (s : List ℕ) (k : ℕ) (out : List ℕ) : Type 0 where
  pub within : k ≤ length s
  pub is : out ≡ paste d at s k

module _ {d s : List ℕ} {at : ℕ} where
  pub filled_start : Filled d at s 0 d
  filled_start = record { within = omega arith; is = paste-zero d at s }

  pub filled_more : {k value : ℕ} {out : List ℕ} (z : ℕ) → at + length s ≤ length d → k < length s → value ≡ get_or s k z → Filled d at s k out → Filled d at s (k + 1) (set out (at + k) value)
  filled_more {k} {value} {out} z room h v f = let e : suc k ≡ k + 1 = omega arith in record {
    within = omega arith;
    is = ap (λ (o : List ℕ). set o (at + k) value) f.is
        ∙ ap (set (paste d at s k) (at + k)) v
        ∙ paste-suc d at s k z (omega arith) h
        ∙ ap (paste d at s) e;
  }

  pub filled_length : {k : ℕ} {out : List ℕ} → at + length s ≤ length d → Filled d at s k out → length out ≡ length d
  filled_length {k} {out} room f = ap length f.is ∙ length-paste d at s k (omega (arith, f.within)) f.within

  pub filled_end : {k : ℕ} {out : List ℕ} → length s ≤ k → Filled d at s k out → Puts s d at out (at + k)
  filled_end {k} {out} h f =
      let e : k ≡ length s = omega (arith, f.within) in
      record { is = f.is ∙ ap (paste d at s) e; end = omega (arith, e) }

pub puts_as : {s t before after : List ℕ} {at r : ℕ} → s ≡ t → Puts s before at after r → Puts t before at after r
puts_as {before = before} {after = after} {at = at} {r = r} e p = subst (λ (x : List ℕ). Puts x before at after r) e p

pub puts_none : {d : List ℕ} {at : ℕ} → Puts [] d at d at
puts_none {d} {at} = record { is = paste-zero d at []; end = omega arith }

pub puts_length : {s d e : List ℕ} {at r : ℕ} → at + length s ≤ length d → Puts s d at e r → length e ≡ length d
puts_length {s} {d} {e} {at} {r} room p = ap length p.is ∙ length-paste d at s (length s) room (omega arith)

-- one text behind another
pub puts_then : {s t d e f : List ℕ} {at r q : ℕ} → at + length s ≤ length d → Puts s d at e r → Puts t e r f q → Puts (s ++ t) d at f q
puts_then {s} {t} {d} {e} {f} {at} {r} {q} room p o =
    let first : List ℕ = paste d at s (length s) in
    let seam : ℕ = at + length s in
    let both : length (s ++ t) ≡ length s + length t = length-append s t in
    let front : take seam first ≡ take at d ++ s =
    take-paste d at s (length s) (omega arith) (omega arith) ∙ ap (λ (l : List ℕ). take at d ++ l) (take-length s) in
    let back : drop (seam + length t) first ≡ drop (seam + length t) d =
    sym (drop-drop (length t) seam first) ∙ ap (drop (length t)) (drop-paste d at s (length s) (omega arith) (omega arith)) ∙ drop-drop (length t) seam d in
    let behind : seam + length t ≡ at + length (s ++ t) = omega (arith, both) in
    record {
      is = o.is
          ∙ ap (λ (l : List ℕ). paste l r t (length t)) p.is
          ∙ ap (λ (n : ℕ). paste first n t (length t)) p.end
          ∙ ap (λ (l : List ℕ). l ++ take (length t) t ++ drop (seam + length t) first) front
          ∙ ap (λ (l : List ℕ). take at d ++ s ++ l ++ drop (seam + length t) first) (take-length t)
          ∙ ap (λ (l : List ℕ). take at d ++ s ++ t ++ l) back
          ∙ ap (λ (l : List ℕ). l ++ drop (seam + length t) d) (append_assoc (take at d) s t)
          ∙ ap (λ (l : List ℕ). take at d ++ l ++ drop (seam + length t) d) (sym (take-length (s ++ t)))
          ∙ ap (λ (n : ℕ). take at d ++ take (length (s ++ t)) (s ++ t) ++ drop n d) behind;
      end = omega (arith, o.end, p.end, both);
    }

-- what stands at the start of a buffer
pub puts_first : {s d e : List ℕ} {r : ℕ} → Puts s d 0 e r → take r e ≡ s
puts_first {s} {d} {e} {r} p =
    ap (take r) p.is
    ∙ ap (λ (n : ℕ). take n (paste d 0 s (length s))) p.end
    ∙ take-paste d 0 s (length s) (omega arith) (omega arith)
    ∙ take-length s

-- one outcome
pub puts_one : {text before a b : List ℕ} {at r s : ℕ} → Puts text before at a r → Puts text before at b s → (a ≡ b) × (r ≡ s)
puts_one p q = (p.is ∙ sym q.is, p.end ∙ sym q.end)

-- the same where there may be no room
pub fits_as : {s t before after : List ℕ} {at r : ℕ} → s ≡ t → Fits s before at after r → Fits t before at after r
fits_as {before = before} {after = after} {at = at} {r = r} e p = subst (λ (x : List ℕ). Fits x before at after r) e p

pub puts_fits : {s d e : List ℕ} {at r : ℕ} → at + length s ≤ length d → Puts s d at e r → Fits s d at e r
puts_fits room p = record { kept = puts_length room p; end = p.end; is = λ h. p.is }

pub fits_puts : {s d e : List ℕ} {at r : ℕ} → at + length s ≤ length d → Fits s d at e r → Puts s d at e r
fits_puts room p = record { is = p.is room; end = p.end }

pub fits_over : {s d : List ℕ} {at r : ℕ} → r ≡ at + length s → length d < r → Fits s d at d r
fits_over e h = record { kept = refl; end = e; is = λ room. absurd (omega arith) }

pub fits_none : {d : List ℕ} {at : ℕ} → Fits [] d at d at
fits_none {d} {at} = record { kept = refl; end = omega arith; is = λ room. paste-zero d at [] }

pub fits_then : {s t d e f : List ℕ} {at r q : ℕ} → Fits s d at e r → Fits t e r f q → Fits (s ++ t) d at f q
fits_then {s} {t} {d} {e} {f} {at} {r} {q} p o = record {
  kept = o.kept ∙ p.kept;
  end = omega (arith, o.end, p.end, both);
  is = λ room. (puts_then (omega (arith, both)) (fits_puts (omega (arith, both)) p) (fits_puts (omega (arith, both, p.end, p.kept)) o)).is;
}
  where
    both : length (s ++ t) ≡ length s + length t
    both = length-append s t
