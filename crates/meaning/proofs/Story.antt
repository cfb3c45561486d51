-- On the sample schema of document 01, for a job with one layer: which privilege each kind of edit asks for; and the vendor's story, with the marks of
-- samples/vendor.txt: whatever the layer's frame range was and whatever else it should become, to delete the layer and insert one is allowed and does
-- what changing the range would do, which is forbidden. Assumes nothing.
use Prim.Native.Nat.{ℕ}
use mathlib.Core.Path.{◌≡◌, refl, ap}
use mathlib.Core.Logic.{◌≢◌}
use mathlib.Core.List.{List, []}
use native.Mathlib.Omega.{arith}
use Rattle.table.specs.Sum.{sum_below}
use Rattle.table.specs.Rule.{rule_of, rule_at, children_at, count_of, OfKind, IsText, IsChoice, IsStar}
use Rattle.table.specs.Privilege.{gap_of, privileges_at, first_privilege, privileges, replace_of, Replaceable, text, insert, delete, replace}
use Rattle.table.specs.Check.{Accepted}
use Rattle.table.proofs.Tables.{sample, marks_of}
use Rattle.policy.specs.Marks.{Allowed}
use Rattle.verdict.proofs.PolicyTests.{accepted_out}
use Rattle.meaning.specs.Trees.{Forest, bare, tree, as_empty, as_text, as_sequence, as_choice, as_star, no_tree, conforming, ConformsAt, Document, Same, put_first}
use Rattle.meaning.specs.Edits.{set_text, put_in, put_out, put_for, Makes, at, below, beside, Leads, stay, go}
use Rattle.meaning.specs.Consistent.{Imitation}
use Rattle.meaning.proofs.Putting.{text_in, kids_of, rest_of}
use Rattle.meaning.proofs.Orders.{same_refl}
use Rattle.meaning.proofs.Theorem.{changes_more}

-- the marks: insert and delete of a layer are allowed (0 and 1), its range is forbidden (3)
abbrev vendor : List ℕ
vendor = marks_of sample 11_0_2_12_12_00_2

-- a layer: a name, a range and a state, which is draft or held
abbrev layer_in : Forest → List ℕ → List ℕ → Forest
layer_in state name range = tree 1 [] (tree 2 name bare (tree 3 range bare (tree 4 [] state bare))) bare

abbrev draft : Forest
draft = tree 5 [] bare bare

abbrev held : Forest
held = tree 6 [] bare bare

abbrev layer : List ℕ → List ℕ → Forest
layer name range = layer_in draft name range

-- a job with these layers
abbrev job : Forest → Forest
job layers = tree 0 [] layers bare

is_job : IsStar sample 0
unfolding rule_at rule_of
is_job = record { type = omega arith; kind_is = refl }

is_layer : OfKind sample 1 2
unfolding rule_at rule_of
is_layer = record { type = omega arith; kind_is = refl }

is_name : IsText sample 2
unfolding rule_at rule_of
is_name = record { type = omega arith; kind_is = refl }

is_range : IsText sample 3
unfolding rule_at rule_of
is_range = record { type = omega arith; kind_is = refl }

is_state : IsChoice sample 4
unfolding rule_at rule_of
is_state = record { type = omega arith; kind_is = refl }

is_draft : OfKind sample 5 0
unfolding rule_at rule_of
is_draft = record { type = omega arith; kind_is = refl }

is_held : OfKind sample 6 0
unfolding rule_at rule_of
is_held = record { type = omega arith; kind_is = refl }

held_for_draft : Replaceable sample 4 0 1
unfolding count_of rule_at rule_of
held_for_draft = record { choice = is_state; from = omega arith; to = omega arith; same_kind = λ e. absurd (omega arith) }

sample_accepted : Accepted sample
unfolding first_privilege gap_of privileges_at privileges children_at count_of rule_at rule_of sum_below
sample_accepted = accepted_out refl

module _ (name : List ℕ) where
  layer_conforms : (range : List ℕ) → ConformsAt sample 1 (layer name range)
  unfolding children_at count_of rule_at rule_of
  layer_conforms range = conforming (as_sequence is_layer refl refl)
      (conforming (as_text is_name refl) no_tree (conforming (as_text is_range refl) no_tree
      (conforming (as_choice 0 is_state (omega arith) refl refl) (conforming (as_empty is_draft refl refl) no_tree no_tree) no_tree))) no_tree

  job_conforms : (range : List ℕ) → Document sample (job (layer name range))
  unfolding children_at rule_at rule_of
  job_conforms range = conforming (as_star 1 is_job refl refl) (layer_conforms range) no_tree

  -- 0 to insert a layer, 1 to delete it, 4 to set it from draft to held
  pub asks_insert : (range : List ℕ) → Leads sample (λ p. p ≡ 0) (job bare) (job (layer name range))
  unfolding first_privilege gap_of privileges_at children_at rule_at rule_of sum_below
  asks_insert range = go (insert 0) refl (at (put_in is_job refl (layer_conforms range) put_first)) stay

  pub asks_delete : (range : List ℕ) → Leads sample (λ p. p ≡ 1) (job (layer name range)) (job bare)
  unfolding first_privilege gap_of privileges_at children_at rule_at rule_of sum_below
  asks_delete range = go (delete 0) refl (at (put_out is_job put_first)) stay

  pub asks_held : (range : List ℕ) → Leads sample (λ p. p ≡ 4) (job (layer_in draft name range)) (job (layer_in held name range))
  unfolding first_privilege gap_of privileges_at replace_of count_of children_at rule_at rule_of sum_below
  asks_held range = go (replace 4 0 1) refl
      (below (below (beside (beside (at (put_for held_for_draft refl refl (conforming (as_empty is_held refl refl) no_tree no_tree))))))) stay

  module _ (old new : List ℕ) where
    -- 3 to change its range
    pub asks_text : Leads sample (λ p. p ≡ 3) (job (layer name old)) (job (layer name new))
    unfolding first_privilege gap_of privileges_at rule_at rule_of sum_below
    asks_text = go (text 3) refl (below (below (beside (at (set_text is_range))))) stay

    -- the forbidden edit
    pub range_changed : Makes sample (text 3) (job (layer name old)) (job (layer name new))
    range_changed = below (below (beside (at (set_text is_range))))

    -- the two allowed ones
    pub deleted_inserted : Leads sample (Allowed vendor) (job (layer name old)) (job (layer name new))
    unfolding first_privilege gap_of privileges_at children_at rule_at rule_of sum_below
    deleted_inserted = go (delete 0) refl (at (put_out is_job put_first)) (go (insert 0) refl (at (put_in is_job refl (layer_conforms new) put_first)) stay)

    pub vendor_imitates : old ≢ new → Imitation sample Same vendor
    unfolding first_privilege gap_of privileges_at rule_at rule_of sum_below
    vendor_imitates d = record {
      edit = text 3;
      forbidden = refl;
      imitates = record {
        start = job (layer name old);
        goal = job (layer name new);
        simulates = record {
          document = job_conforms old;
          made = range_changed;
          end = job (layer name new);
          leads = deleted_inserted;
          same_end = same_refl (job (layer name new));
        };
        changes = changes_more sample_accepted (λ h. h) (job_conforms old) range_changed (λ q. d (ap (λ (t : Forest). text_in (rest_of (kids_of (kids_of t)))) q));
      };
    }
