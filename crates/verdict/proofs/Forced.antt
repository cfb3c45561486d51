-- What an allowed set forces: more from more; a policy is clean exactly if no forced privilege is forbidden, and exactly if the words of its format's
-- document hold of it. Assumes nothing.
use Rattle.std.proofs.Common.{ℕ, ◌<◌, ◌≡◌, refl, ◌⊎◌, inl, inr, List, arith}
use Rattle.table.specs.Words.{format_of}
use Rattle.table.specs.Rule.{IsStar, child_at}
use Rattle.table.specs.Privilege.{privileges, insert_of, delete_of, exchange_of, replace_of, SameKind, replace}
use Rattle.table.specs.Privilege as table
use Rattle.table.proofs.Privileges.{belongs_below, edit_below}
use Rattle.policy.specs.Marks.{Allowed, Forbidden}
use Rattle.policy.specs.Renewed.{Renewed, by_both, by_exchange}
use Rattle.policy.proofs.Reaches.{reached_mono, reached_replaceable}
use Rattle.policy.proofs.Renewals.{both_mono, renewed_mono}
use Rattle.verdict.specs.Below.{PrivilegeBelow}
use Rattle.verdict.specs.Conditions.{Clean, ThreeConditions, SameKindConditions}
use Rattle.verdict.specs.Forces.{Forces, exchange, renewal, chain, cycle}

pub forces_mono : {ws : List ℕ} {S R : ℕ → Type 0} → ((p : ℕ) → S p → R p) → {p : ℕ} → Forces ws S p → Forces ws R p
forces_mono more (exchange x c b e) = exchange x c (both_mono more b) e
forces_mono more (renewal x s r w) = renewal x s (renewed_mono more r) w
forces_mono more (chain x i j s r c e) = chain x i j s (reached_mono more r) c e
forces_mono more (cycle x i s r w) = cycle x i s (reached_mono more r) w

-- what is forced is a privilege of the table
pub forced_below : {ws : List ℕ} {S : ℕ → Type 0} {p : ℕ} → Forces ws S p → p < privileges ws
forced_below {ws} (exchange x c b e) = rw e (edit_below ws (table.exchange x) c)
forced_below (renewal x s r w) = belongs_below w.belongs
forced_below {ws} (chain x i j s r c e) = rw e (edit_below ws (replace x i j) c)
forced_below (cycle x i s r w) = belongs_below w.belongs

-- the conditions are the ways to force
pub clean_forces : {ws marks : List ℕ} → Clean ws marks → (p : ℕ) → Forces ws (Allowed marks) p → ¬ Forbidden marks p
clean_forces q p (exchange x c b e) = rw e (q.exchange x c b)
clean_forces q p (renewal x s r w) = q.renewal x p s r w
clean_forces q p (chain x i j s r c e) = rw e (q.chain x i j s r c)
clean_forces q p (cycle x i s r w) = q.cycle x i p s r w

pub forces_clean : {ws marks : List ℕ} → ((p : ℕ) → Forces ws (Allowed marks) p → ¬ Forbidden marks p) → Clean ws marks
forces_clean {ws} h = record {
  exchange = λ x c b. h (exchange_of ws x) (exchange x c b refl);
  renewal = λ x p s r w. h p (renewal x s r w);
  chain = λ x i j s r c. h (replace_of ws x i j) (chain x i j s r c refl);
  cycle = λ x i p s r w. h p (cycle x i s r w);
}

-- HONESTY, format 1: the three conditions as document 01 writes them. There is no exchange, and a reached pair has a privilege exactly if it is of
-- different positions.
module _ (ws : List ℕ) (one : format_of ws ≡ 1) where
  none_same : ¬ SameKind ws
  none_same two = omega arith

  pub clean_three : {marks : List ℕ} → Clean ws marks → ThreeConditions ws marks
  clean_three q = record {
    insert_delete = λ x p s a b. q.renewal x p s (by_both (record { insert = a; delete = b }));
    chain = λ x i j s r d. q.chain x i j s r (reached_replaceable s r (λ e. absurd (d e)));
    cycle = q.cycle;
  }

  pub three_clean : {marks : List ℕ} → ThreeConditions ws marks → Clean ws marks
  three_clean {marks} t = record {
    exchange = λ x c. absurd (none_same c.same_kind);
    renewal = renewal;
    chain = λ x i j s r c. t.chain x i j s r (λ e. none_same (c.same_kind e));
    cycle = t.cycle;
  }
    where
      renewal : (x p : ℕ) → IsStar ws x → Renewed ws (Allowed marks) x → PrivilegeBelow ws p (child_at ws x 0) → ¬ Forbidden marks p
      renewal x p s (by_both b) = t.insert_delete x p s b.insert b.delete
      renewal x p s (by_exchange c a) = absurd (none_same c.same_kind)

-- HONESTY, format 2: the conditions as order 9 writes them. Every star has an exchange, and every reached pair a privilege.
module _ (ws : List ℕ) (two : SameKind ws) where
  pub clean_same_kind : {marks : List ℕ} → Clean ws marks → SameKindConditions ws marks
  clean_same_kind {marks} q = record {
    replace = λ x s a b. q.exchange x (record { star = s; same_kind = two }) (record { insert = a; delete = b });
    below = λ x p s r. q.renewal x p s (renewed s r);
    chain = λ x i j s r. q.chain x i j s r (reached_replaceable s r (λ e. two));
    cycle = q.cycle;
  }
    where
      renewed : {x : ℕ} → IsStar ws x → (Allowed marks (insert_of ws x) × Allowed marks (delete_of ws x)) ⊎ Allowed marks (exchange_of ws x) → Renewed ws (Allowed marks) x
      renewed s (inl (a, b)) = by_both (record { insert = a; delete = b })
      renewed s (inr a) = by_exchange (record { star = s; same_kind = two }) a

  pub same_kind_clean : {marks : List ℕ} → SameKindConditions ws marks → Clean ws marks
  same_kind_clean {marks} t = record {
    exchange = λ x c b. t.replace x c.star b.insert b.delete;
    renewal = λ x p s r. t.below x p s (out r);
    chain = λ x i j s r c. t.chain x i j s r;
    cycle = t.cycle;
  }
    where
      out : {x : ℕ} → Renewed ws (Allowed marks) x → (Allowed marks (insert_of ws x) × Allowed marks (delete_of ws x)) ⊎ Allowed marks (exchange_of ws x)
      out (by_both b) = inl (b.insert, b.delete)
      out (by_exchange c a) = inr a
