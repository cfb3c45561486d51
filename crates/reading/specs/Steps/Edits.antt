-- What the parts of a line behind the type's name say of an edit at that type. Assumes nothing.
use Rattle.std.specs.Prelude.{ℕ, ◌<◌, ◌≡◌, List, [], ◌∷◌, get_or, Option, MatchOption}
use Rattle.table.specs.Words.{types}
use Rattle.table.specs.Privilege.{first_privilege, Edit, Offers, type_of, privilege_of}
use Rattle.table.specs.Named.{Named, texts, inserts, deletes, replaces, name_of}
use Rattle.table.specs.Steps.Numbering.{Small, insert_in, delete_in, exchange_in, replace_in, ExchangeableIn, ReplaceableIn}
use Rattle.table.specs.declared.privilege.Numbering.{Numbering}
use Rattle.grammar.specs.Bytes.{ascii}
use Rattle.labels.specs.Steps.Booked.{Plain}
use Rattle.listing.specs.Line.{spaced, line_of}
use Rattle.listing.specs.Faults.{IsSet}
use Rattle.reading.specs.Steps.Matching.{Stands}
use Rattle.reading.specs.declared.lines.Line.{Line}
use Rattle.reading.specs.declared.matching.Ended.{Ended}

-- the line of an edit behind the type's name
abbrev pub verb_of : (ℕ → List ℕ) → Named → List ℕ
verb_of label (texts x) = spaced (ascii "text") []
verb_of label (inserts x child) = spaced (ascii "insert") (label child ∷ [])
verb_of label (deletes x child) = spaced (ascii "delete") (label child ∷ [])
verb_of label (replaces x from to) = spaced (ascii "replace") (label from ∷ label to ∷ [])

-- an edit at type x stands there, by its privilege and the place behind it
pub record EditEnded (label : ℕ → List ℕ) (ws : List ℕ) (x : ℕ) (t : List ℕ) (a p end : ℕ) : Type 0 where
  pub edit : Edit
  pub offered : Offers ws edit
  pub type : type_of edit ≡ x
  pub number : privilege_of ws edit ≡ p
  pub stands : Stands t a (verb_of label (name_of ws edit)) end

-- the edit at type x that stands there, if there is one
abbrev pub EditRead : (ℕ → List ℕ) → List ℕ → ℕ → List ℕ → ℕ → Option Ended → Type 0
EditRead label ws x t a r = MatchOption r
    ((e : Edit) → Offers ws e → type_of e ≡ x → (b : ℕ) → ¬ Stands t a (verb_of label (name_of ws e)) b)
    (λ e. EditEnded label ws x t a e.number e.end)

-- the same of a star, by its numbering and its child's label
pub data StarEnded (n : Numbering) (child t : List ℕ) (a p end : ℕ) : Type 0 where
  inserted : p ≡ insert_in n → Stands t a (spaced (ascii "insert") (child ∷ [])) end → StarEnded n child t a p end
  deleted : p ≡ delete_in n → Stands t a (spaced (ascii "delete") (child ∷ [])) end → StarEnded n child t a p end
  exchanged : ExchangeableIn n → p ≡ exchange_in n → Stands t a (spaced (ascii "replace") (child ∷ child ∷ [])) end → StarEnded n child t a p end

-- none of them
pub record NoStar (n : Numbering) (child t : List ℕ) (a : ℕ) : Type 0 where
  pub not_inserted : (b : ℕ) → ¬ Stands t a (spaced (ascii "insert") (child ∷ [])) b
  pub not_deleted : (b : ℕ) → ¬ Stands t a (spaced (ascii "delete") (child ∷ [])) b
  pub not_exchanged : ExchangeableIn n → (b : ℕ) → ¬ Stands t a (spaced (ascii "replace") (child ∷ child ∷ [])) b

abbrev pub StarRead : Numbering → List ℕ → List ℕ → ℕ → Option Ended → Type 0
StarRead n child t a r = MatchOption r (NoStar n child t a) (λ e. StarEnded n child t a e.number e.end)

-- the kids of a choice can be told apart by their labels
pub record Kinds (label : ℕ → List ℕ) (kids : List ℕ) (n : Numbering) : Type 0 where
  pub small : Small n
  pub low : (i : ℕ) → i < n.count → get_or kids i 0 < 256
  pub plain : (i : ℕ) → i < n.count → Plain (label (get_or kids i 0))
  pub apart : (i j : ℕ) → i < n.count → j < n.count → label (get_or kids i 0) ≡ label (get_or kids j 0) → i ≡ j

-- the same of a choice, by its numbering and its kids
pub record ChoiceEnded (label : ℕ → List ℕ) (kids : List ℕ) (n : Numbering) (t : List ℕ) (a p end : ℕ) : Type 0 where
  pub from : ℕ
  pub to : ℕ
  pub replaceable : ReplaceableIn n from to
  pub number : p ≡ replace_in n from to
  pub stands : Stands t a (spaced (ascii "replace") (label (get_or kids from 0) ∷ label (get_or kids to 0) ∷ [])) end

abbrev pub ChoiceRead : (ℕ → List ℕ) → List ℕ → Numbering → List ℕ → ℕ → Option Ended → Type 0
ChoiceRead label kids n t a r = MatchOption r
    ((i j : ℕ) → ReplaceableIn n i j → (b : ℕ) → ¬ Stands t a (spaced (ascii "replace") (label (get_or kids i 0) ∷ label (get_or kids j 0) ∷ [])) b)
    (λ e. ChoiceEnded label kids n t a e.number e.end)

-- from a to b stands the line of privilege p with this mark
pub record Standing (label : ℕ → List ℕ) (ws t : List ℕ) (a p mark b : ℕ) : Type 0 where
  pub edit : Edit
  pub offered : Offers ws edit
  pub number : privilege_of ws edit ≡ p
  pub mark_set : IsSet mark
  pub line : Stands t a (line_of label mark (name_of ws edit)) b

-- a line stands there, with its type below those of the table
pub record LineEnded (label : ℕ → List ℕ) (ws t : List ℕ) (a : ℕ) (l : Line) : Type 0 where
  pub type : l.x < types ws
  pub standing : Standing label ws t a l.privilege l.mark l.end

-- the line at a, if there is one
abbrev pub LineRead : (ℕ → List ℕ) → List ℕ → List ℕ → ℕ → Option Line → Type 0
LineRead label ws t a r = MatchOption r ((q m b : ℕ) → ¬ Standing label ws t a q m b) (LineEnded label ws t a)

-- a number for each type, its first privilege
abbrev pub FirstsOf : List ℕ → List ℕ → Type 0
FirstsOf ws firsts = (x : ℕ) → x < types ws → get_or firsts x 0 ≡ first_privilege ws x
