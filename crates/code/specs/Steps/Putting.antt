-- What putting a text's particles, contents and declarations into code does, for every tree of the text. Assumes nothing.
use Rattle.std.specs.Prelude.{ℕ, suc, ◌+◌, ◌≤◌, ◌≡◌, Bool, true, false, List, [], ◌∷◌, ◌++◌, length}
use Prim.Native.Char.{code}
use Rattle.grammar.specs.Tree.{Mark, Particle, Particles, more, Content, is-empty, is_text, is_any, is_mixed, is_children, Declaration}
use Rattle.grammar.specs.Bytes.{is_name_byte, Byte, Of}
use Rattle.grammar.specs.Grammar.{Blanks, Name, MarkAt, Cp, Row, Spec, Items}
use Rattle.grammar.specs.Limits.{DeepAt, DeepIn}
use Rattle.grammar.proofs.Pieces.{After}
use Rattle.model.specs.Model.{Model, marked, either_of, in_order_of, model_of, models_of}
use Rattle.model.specs.Tables.{number_of}
use Rattle.scan.specs.Steps.Readers.{BlanksRead}
use Rattle.names.specs.Steps.Names.{Listed}
use Rattle.write.specs.Steps.Code.{word_of, code_of, code_of_content, code_of_all}
use Rattle.code.specs.Steps.Holding.{Sized, Holds, Emits}

-- the declared names are known
pub record Known (t list : List ℕ) (count : ℕ) (ds : List Declaration) : Type 0 where
  pub all : length ds ≡ count
  pub few : count ≤ 256
  pub listed : Listed t ds list count
  pub short : length t ≤ 65536

-- within the text, whatever it is
pub record Ends (t : List ℕ) (at end : ℕ) (before after : List ℕ) : Type 0 where
  pub from : at ≤ end
  pub inside : end ≤ length t
  pub kept : length after ≡ length before

abbrev pub Shallow : ℕ → Particle → Type 0
Shallow depth p = (place : ℕ) → ¬ DeepAt p depth place

abbrev pub AllShallow : ℕ → Particles → Type 0
AllShallow depth ps = (place : ℕ) → ¬ DeepIn ps depth place

pub record ParticlePut (t list : List ℕ) (count depth at : ℕ) (before : List ℕ) (size : ℕ) (after : List ℕ) (end grown : ℕ) : Type 0 where
  pub ends : Ends t at end before after
  pub of : (ds : List Declaration) → Known t list count ds → (p : Particle) (e : ℕ) → Cp t at e p → After t e → Shallow depth p
      → (end ≡ e) × Emits (code_of (number_of ds) (model_of p)) before size after grown

-- the inside of a group
pub record GroupPut (t list : List ℕ) (count depth at : ℕ) (before : List ℕ) (size : ℕ) (after : List ℕ) (end grown : ℕ) : Type 0 where
  pub ends : Ends t at end before after
  pub choices : (ds : List Declaration) → Known t list count ds → (p : Particle) (ps : Particles) (e : ℕ) → Row t (code "|") at e (more p ps)
      → AllShallow depth (more p ps) → (end ≡ e) × Emits (code_of (number_of ds) (either_of (models_of (more p ps)))) before size after grown
  pub sequences : (ds : List Declaration) → Known t list count ds → (ps : Particles) (e : ℕ) → Row t (code ",") at e ps
      → AllShallow depth ps → (end ≡ e) × Emits (code_of (number_of ds) (in_order_of (models_of ps))) before size after grown

-- a mark behind a model whose code begins at start
pub record MarkPut (t : List ℕ) (at start : ℕ) (before : List ℕ) (size : ℕ) (after : List ℕ) (end grown : ℕ) : Type 0 where
  pub ends : Ends t at end before after
  pub of : (number : List ℕ → ℕ) (m : Model) (k : Mark) (e : ℕ) → MarkAt t at e k → After t e
      → (end ≡ e) × ((l : List ℕ) → Sized start l → Holds before size (l ++ code_of number m) → Holds after grown (l ++ code_of number (marked k m)))

-- a ')' is passed, if one stands there
pub data CloseRead (t : List ℕ) : ℕ → ℕ → Type 0 where
  passed : {a : ℕ} → Byte t a (code ")") → CloseRead t a (suc a)
  left : {a : ℕ} → ¬ Byte t a (code ")") → CloseRead t a a

-- a name
pub record NamePut (t list : List ℕ) (count at : ℕ) (before : List ℕ) (size : ℕ) (after : List ℕ) (end grown : ℕ) : Type 0 where
  pub ends : Ends t at end before after
  pub of : (ds : List Declaration) → Known t list count ds → (n : List ℕ) (e : ℕ) → Name t at e n → ¬ Of is_name_byte t e
      → (end ≡ e) × Emits (word_of 0 (number_of ds n) ∷ []) before size after grown

-- the particles behind a row's first one, from the byte behind that and its white space on
pub data RowRest (t : List ℕ) (s : ℕ) : ℕ → ℕ → List Particle → Type 0 where
  ended : {b : ℕ} → Byte t b (code ")") → RowRest t s b (suc b) []
  another : {b c d e f : ℕ} {p : Particle} {qs : List Particle} → Byte t b s → Blanks t (suc b) c → Cp t c d p → Blanks t d e → RowRest t s e f qs
      → RowRest t s b f (p ∷ qs)

abbrev pub EachShallow : ℕ → List Particle → Type 0
EachShallow depth [] = Unit {0}
EachShallow depth (p ∷ qs) = Shallow depth p × EachShallow depth qs

abbrev pub codes_of : (List ℕ → ℕ) → List Particle → List ℕ
codes_of number [] = []
codes_of number (p ∷ qs) = code_of number (model_of p) ++ codes_of number qs

-- the rest of a row, and the word of its operator before all of its operands
pub record RestPut (t list : List ℕ) (count depth at start s kind : ℕ) (before : List ℕ) (size : ℕ) (after : List ℕ) (end grown : ℕ) : Type 0 where
  pub ends : Ends t at end before after
  pub of : (ds : List Declaration) → Known t list count ds → (c : List ℕ) (qs : List Particle) (e : ℕ) → RowRest t s at e qs → EachShallow depth qs
      → (end ≡ e) × ((l : List ℕ) → Sized start l → Holds before size (l ++ c)
      → Holds after grown (l ++ ((kind + suc (length qs)) ∷ (c ++ codes_of (number_of ds) qs))))

-- a content begins with '(' and '#', or not
abbrev pub TextRead : List ℕ → ℕ → Bool → Type 0
TextRead t at true = Byte t at (code "(") × ((b : ℕ) × BlanksRead t (suc at) b × Byte t b (code "#"))
TextRead t at false = Byte t at (code "(") → (b : ℕ) × BlanksRead t (suc at) b × (¬ Byte t b (code "#"))

-- a content
abbrev pub ShallowIn : Content → Type 0
ShallowIn is-empty = Unit {0}
ShallowIn is_text = Unit {0}
ShallowIn (is_any at) = Unit {0}
ShallowIn (is_mixed at us) = Unit {0}
ShallowIn (is_children p) = Shallow 16 p

pub record ContentPut (t list : List ℕ) (count at : ℕ) (before : List ℕ) (size : ℕ) (after : List ℕ) (grown : ℕ) : Type 0 where
  pub of : (ds : List Declaration) → Known t list count ds → (x : Content) (e : ℕ) → Spec t at e x → After t e → ShallowIn x
      → Emits (code_of_content (number_of ds) x) before size after grown
  pub kept : length after ≡ length before

-- the declarations of a text
abbrev pub AllShallowIn : List Declaration → Type 0
AllShallowIn [] = Unit {0}
AllShallowIn (d ∷ ds) = ShallowIn d.content × AllShallowIn ds

pub record AllPut (t list : List ℕ) (count : ℕ) (after : List ℕ) (size : ℕ) : Type 0 where
  pub kept : length after ≡ 1280
  pub of : (ds : List Declaration) → Items t 0 ds → Known t list count ds → AllShallowIn ds → Holds after size (code_of_all (number_of ds) ds)
