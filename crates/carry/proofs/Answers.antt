-- The call has one outcome: one answer, and one content of each lent result. Assumes nothing.
use Prim.Native.Nat.{ℕ, ◌+◌, ◌<◌}
use mathlib.Core.Path.{◌≡◌, sym, ap, ◌∙◌}
use mathlib.Core.List.{List, ◌++◌}
use native.Mathlib.Omega.{arith}
use lib.ListN.{get_or, drop}
use lib.Seq.{ext_get_or}
use Rattle.table.specs.Privilege.{privileges}
use Rattle.table.proofs.Answers.{lowest_one, answer_one, accepted_answer}
use Rattle.policy.proofs.Policies.{policy_not, refused_one}
use Rattle.verdict.specs.declared.Answer.{Answer}
use Rattle.verdict.proofs.Judged.{refusal_one}
use Rattle.carry.specs.Numbers.{NewNumbers, NoNumbers, length_off, entry_off}
use Rattle.carry.specs.Carries.{Becomes, NewMark, kept, fresh, LostByte, lost, unset, housed, Carries, Move}
use Rattle.carry.specs.Answers.{NoMove, no_policy, no_table, no_numbers, CarryAnswer, refused, short, carried}
use Rattle.carry.proofs.Becoming.{becomes_from}

-- a list of new numbers is not refused
module _ {types e : ℕ} {numbers : List ℕ} where
  pub numbers_not : {n p : ℕ} → NewNumbers types e numbers → ¬ NoNumbers types e numbers n p
  numbers_not l (length_off d z q) = d l.size
  numbers_not l (entry_off s z low) = low.fails (l.entries _ low.within)

  pub no_numbers_one : {n p m q : ℕ} → NoNumbers types e numbers n p → NoNumbers types e numbers m q → (n ≡ m) × (p ≡ q)
  no_numbers_one (length_off d z y) (length_off f g x) = (z ∙ sym g, y ∙ sym x)
  no_numbers_one (length_off d z y) (entry_off s g l) = absurd (d s)
  no_numbers_one (entry_off s z l) (length_off f g x) = absurd (f s)
  no_numbers_one (entry_off s z l) (entry_off t g k) = (z ∙ sym g, lowest_one l k)

module _ {old marks new numbers : List ℕ} where
  -- what can be carried is not refused
  pub move_not : {n p : ℕ} → Move old marks new numbers → ¬ NoMove old marks new numbers n p
  move_not v (no_policy r) = policy_not v.policy r
  move_not v (no_table pol d t e) = d (accepted_answer v.accepted t)
  move_not v (no_numbers pol a u) = numbers_not v.listed u

  pub no_move_one : {n p m q : ℕ} → NoMove old marks new numbers n p → NoMove old marks new numbers m q → (n ≡ m) × (p ≡ q)
  no_move_one (no_policy r) (no_policy s) = refused_one r s
  no_move_one (no_policy r) (no_table pol d t e) = absurd (policy_not pol r)
  no_move_one (no_policy r) (no_numbers pol a u) = absurd (policy_not pol r)
  no_move_one (no_table pol d t e) (no_policy s) = absurd (policy_not pol s)
  no_move_one (no_table pol d t e) (no_table qol f u g) = let o = answer_one t u in (e ∙ ap (λ (n : ℕ). 100 + n) o.0 ∙ sym g, o.1)
  no_move_one (no_table pol d t e) (no_numbers qol a u) = absurd (d (accepted_answer a t))
  no_move_one (no_numbers pol a u) (no_policy s) = absurd (policy_not pol s)
  no_move_one (no_numbers pol a u) (no_table qol d t e) = absurd (d (accepted_answer a t))
  no_move_one (no_numbers pol a u) (no_numbers qol b w) = no_numbers_one u w

  new_mark_one : {q m k : ℕ} → Move old marks new numbers → NewMark (λ p. Becomes old new numbers p q) marks m
      → NewMark (λ p. Becomes old new numbers p q) marks k → m ≡ k
  new_mark_one v (kept p b e) (kept r c f) =
      e ∙ ap (λ (z : ℕ). get_or marks z 0) (becomes_from v.policy.accepted v.accepted v.listed b c) ∙ sym f
  new_mark_one v (kept p b e) (fresh d f) = absurd (d p b)
  new_mark_one v (fresh d e) (kept p b f) = absurd (d p b)
  new_mark_one v (fresh d e) (fresh g f) = e ∙ sym f

-- a mark and its new homes have one byte
lost_byte_one : {Home : ℕ → Type 0} {mark b c : ℕ} → LostByte Home mark b → LostByte Home mark c → b ≡ c
lost_byte_one (lost s d e) (lost t g f) = e ∙ sym f
lost_byte_one (lost s d e) (unset z f) = absurd (s z)
lost_byte_one (lost s d e) (housed q h f) = absurd (d q h)
lost_byte_one (unset z e) (lost t g f) = absurd (t z)
lost_byte_one (unset z e) (unset y f) = e ∙ sym f
lost_byte_one (unset z e) (housed q h f) = e ∙ sym f
lost_byte_one (housed q h e) (lost t g f) = absurd (g q h)
lost_byte_one (housed q h e) (unset y f) = e ∙ sym f
lost_byte_one (housed q h e) (housed r g f) = e ∙ sym f

module _ {old marks new numbers : List ℕ} where
  -- what can be carried has one list of new marks and one of bytes
  pub carries_one : {n x m y : List ℕ} → Move old marks new numbers → Carries old marks new numbers n x → Carries old marks new numbers m y → (n ≡ m) × (x ≡ y)
  carries_one {n} {x} {m} {y} v c d = (
    ext_get_or 0 n m (c.size ∙ sym d.size) (λ q l.
        let w : q < privileges new = omega (arith, c.size) in new_mark_one v (c.marks_are q w) (d.marks_are q w)),
    ext_get_or 0 x y (c.bytes_size ∙ sym d.bytes_size) (λ p l.
        let w : p < privileges old = omega (arith, c.bytes_size) in lost_byte_one (c.bytes_are p w) (d.bytes_are p w)),
  )

  pub carry_one : {out lost : List ℕ} {a b : Answer} {x l y k : List ℕ} → CarryAnswer old marks new numbers out lost a x l
      → CarryAnswer old marks new numbers out lost b y k → (a ≡ b) × (x ≡ y) × (l ≡ k)
  carry_one (refused r e s t) (refused q f u w) = (e ∙ refusal_one (no_move_one r q) ∙ sym f, s ∙ sym u, t ∙ sym w)
  carry_one (refused r e s t) (short v d f u w) = absurd (move_not v r)
  carry_one (refused r e s t) (carried v g c f u w) = absurd (move_not v r)
  carry_one (short v d e s t) (refused q f u w) = absurd (move_not v q)
  carry_one (short v d e s t) (short z g f u w) = (e ∙ sym f, s ∙ sym u, t ∙ sym w)
  carry_one (short v d e s t) (carried z g c f u w) = absurd (d g)
  carry_one (carried v g c e s t) (refused q f u w) = absurd (move_not v q)
  carry_one (carried v g c e s t) (short z d f u w) = absurd (d g)
  carry_one {out} {lost} (carried v g c e s t) (carried z h d f u w) =
      let o = carries_one v c d in (
        e ∙ sym f,
        s ∙ ap (λ (n : List ℕ). n ++ drop (privileges new) out) o.0 ∙ sym u,
        t ∙ ap (λ (n : List ℕ). n ++ drop (privileges old) lost) o.1 ∙ sym w,
      )
