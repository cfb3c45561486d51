-- What a match on the rule of a type tells of the type. Assumes nothing.
use Rattle.std.proofs.Common.{◌≡◌, ◌≢◌, ℕ, ◌<◌, List, refl, sym, ap, ◌∙◌, arith}
use Rattle.table.specs.Words.{types}
use Rattle.table.specs.Rule.{rule_at, kind_in, IsText, IsStar}
use Rattle.table.specs.Steps.Reading.{ReadAs}
use Rattle.table.specs.declared.rule.Rule.{Rule}
use Rattle.table.specs.declared.rule.Rule.TheVariants.{Empty, Text, Sequence, Choice, Star}

module _ {ws : List ℕ} {x : ℕ} {r : Rule} (read : ReadAs (rule_at ws x) r) where
  pub is_text : x < types ws → r ≡ Text → IsText ws x
  is_text l e = record { type = l; kind_is = ap kind_in (sym read.is ∙ e) }

  pub no_text : r ≢ Text → ¬ IsText ws x
  no_text d t = go r d (ap kind_in read.is ∙ t.kind_is)
    where
      go : (q : Rule) → q ≢ Text → kind_in q ≡ 1 → ⊥
      go Empty f e = omega arith
      go Text f e = f refl
      go (Sequence first count) f e = omega arith
      go (Choice first count) f e = omega arith
      go (Star first count) f e = omega arith

  pub is_star : {first count : ℕ} → x < types ws → r ≡ Star first count → IsStar ws x
  is_star l e = record { type = l; kind_is = ap kind_in (sym read.is ∙ e) }

  pub no_star : ((first count : ℕ) → r ≢ Star first count) → ¬ IsStar ws x
  no_star d t = go r d (ap kind_in read.is ∙ t.kind_is)
    where
      go : (q : Rule) → ((first count : ℕ) → q ≢ Star first count) → kind_in q ≡ 4 → ⊥
      go Empty f e = omega arith
      go Text f e = omega arith
      go (Sequence first count) f e = omega arith
      go (Choice first count) f e = omega arith
      go (Star first count) f e = f first count refl
