-- The figures sum up: each role is refused, or has one mark for each privilege and is clean or not. Assumes nothing.
use Rattle.std.proofs.Common.{ℕ, zero, suc, ◌+◌, ◌*◌, ◌≤◌, ◌<◌, ◌≡◌, refl, ◌⊎◌, inl, inr, List, arith, add-zero, length, get_or}
use Rattle.table.specs.Privilege.{privileges}
use Rattle.table.proofs.HowMany.{many_either, many_full, many_fewer, many_union}
use Rattle.policy.specs.Marks.{Legal, Fit}
use Rattle.policy.specs.Roles.{stretch}
use Rattle.verdict.specs.Conditions.{Clean}
use Rattle.verdict.specs.declared.Condition.{Condition}
use Rattle.verdict.specs.declared.Condition.TheVariants.{InsertDelete, Chain, Cycle}
use Rattle.broken.specs.Breaks.{Breaks}
use Rattle.broken.proofs.Breaks.{clean_unbroken, unbroken_clean}
use Rattle.sheet.specs.Sheets.{RefusedRole, Has, RolesWith, mark_at, SheetOf}
use Rattle.sheet.specs.declared.Sheet.{Sheet}

-- of V marks, "a role with a mark above 2" is one that is refused
pub refused_above : (ws : List ℕ) {m : List ℕ} → length m ≡ privileges ws → RefusedRole ws m → ¬ ((p : ℕ) → p < privileges ws → Legal m p)
refused_above ws s d all = d (record { size = s; legal = all })

pub above_refused : (ws : List ℕ) {m : List ℕ} (p : ℕ) → p < privileges ws → ¬ Legal m p → RefusedRole ws m
above_refused ws p l d f = d (f.legal p l)

three_marks : (m : ℕ) → m ≤ 2 → (m ≡ 0) ⊎ (m ≡ 1) ⊎ (m ≡ 2)
three_marks zero h = inl refl
three_marks (suc zero) h = inr (inl refl)
three_marks (suc (suc zero)) h = inr (inr refl)
three_marks (suc (suc (suc m))) h = absurd (omega arith)

module _ {ws : List ℕ} {roles : ℕ} {marks : List ℕ} {s : Sheet} {counts : List ℕ} (sheet : SheetOf ws roles marks s counts) where
  abbrev role : ℕ → List ℕ
  role r = stretch ws r marks

  -- privilege p has the mark of the k-th of its three numbers
  abbrev Marked : ℕ → ℕ → ℕ → Type 0
  Marked p k r = Has ws (λ m. get_or m p 0 ≡ mark_at k) (role r)

  -- "the three counts of a privilege sum to the number of roles not refused"
  pub marks_sum : (p : ℕ) → p < privileges ws
      → get_or counts (3 * p) 0 + get_or counts (3 * p + 1) 0 + get_or counts (3 * p + 2) 0 + s.figures.refused ≡ roles
  marks_sum p l =
      let c = sheet.numbers.each p in
      let first = rw (add-zero (3 * p)) at (c 0 l (omega arith)) in
      let two = many_either (λ r h a b. omega (arith, a.has, b.has)) first (c 1 l (omega arith)) in
      let three = many_either (λ r h a b. elim a [ inl x ↦ omega (arith, x.has, b.has) | inr x ↦ omega (arith, x.has, b.has) ]) two (c 2 l (omega arith)) in
      let all = many_either (λ r h a d. elim a [ inl x ↦ elim x [ inl y ↦ d y.fit | inr y ↦ d y.fit ] | inr x ↦ d x.fit ]) three sheet.figures.refused in
      many_full all (λ r h none. none (inr (λ f. go r f none (three_marks (get_or (role r) p 0) (f.legal p l)))))
    where
      go : (r : ℕ) → Fit (privileges ws) (role r) → ¬ (((Marked p 0 r ⊎ Marked p 1 r) ⊎ Marked p 2 r) ⊎ RefusedRole ws (role r))
          → (get_or (role r) p 0 ≡ 0) ⊎ (get_or (role r) p 0 ≡ 1) ⊎ (get_or (role r) p 0 ≡ 2) → ⊥
      go r f none (inl e) = none (inl (inr (record { fit = f; has = e })))
      go r f none (inr (inl e)) = none (inl (inl (inl (record { fit = f; has = e }))))
      go r f none (inr (inr e)) = none (inl (inl (inr (record { fit = f; has = e }))))

  -- a role that is not refused is clean or not, and one that is not clean breaks a condition
  module _ {broken : ℕ} (many : RolesWith ws roles marks (Has ws (λ m. ¬ Clean ws m)) broken) where
    pub clean_sum : s.figures.clean + broken + s.figures.refused ≡ roles
    clean_sum =
        let two = many_either (λ r h a b. b.has a.has) sheet.figures.clean many in
        let all = many_either (λ r h a d. elim a [ inl x ↦ d x.fit | inr x ↦ d x.fit ]) two sheet.figures.refused in
        many_full all (λ r h none. none (inr (λ f. none (inl (inr (record { fit = f; has = λ q. none (inl (inl (record { fit = f; has = q }))) }))))))

    breaks : (c : Condition) (r : ℕ) → Has ws (Breaks ws c) (role r) → ¬ ¬ Has ws (λ m. ¬ Clean ws m) (role r)
    breaks c r b d = d (record { fit = b.fit; has = λ q. clean_unbroken q c b.has })

    pub broken_least : (s.figures.insert_delete ≤ broken) × (s.figures.chain ≤ broken) × (s.figures.cycle ≤ broken)
    broken_least = (
      many_fewer (λ r h. breaks InsertDelete r) sheet.figures.insert_delete many,
      many_fewer (λ r h. breaks Chain r) sheet.figures.chain many,
      many_fewer (λ r h. breaks Cycle r) sheet.figures.cycle many,
    )

    pub broken_most : broken ≤ s.figures.insert_delete + s.figures.chain + s.figures.cycle
    broken_most =
        let two = many_union sheet.figures.insert_delete sheet.figures.chain in
        let three = many_union two.1 sheet.figures.cycle in
        omega (
          arith,
          two.2,
          three.2,
          many_fewer (λ r h b none. b.has (unbroken_clean
              (λ x. none (inl (inl (record { fit = b.fit; has = x }))))
              (λ x. none (inl (inr (record { fit = b.fit; has = x }))))
              (λ x. none (inr (record { fit = b.fit; has = x }))))) many three.1,
        )
