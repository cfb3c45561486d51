-- What is said of a whole text from a place on: that it goes on as the grammar asks, or that it also passes a limit at byte j, as its first n bytes tell.
-- A claim is a piece of the grammar and the claim of what follows it. Assumes nothing.
use Rattle.std.specs.Prelude.{ℕ, zero, suc, ◌+◌, ◌<◌, ◌≡◌, ◌⊎◌, Bool, true, false, List, [], ◌∷◌, length, eqb}
use Prim.Native.Char.{code}
use Rattle.grammar.specs.Bytes.{ascii, is_mark, Byte, Of, Literal}
use Rattle.grammar.specs.Tree.{Particle, Particles, name, choice, sequence, last, more, Use, Content}
use Rattle.grammar.specs.Tree.{is-empty, is_text, is_any, is_mixed, is_children, Declaration}
use Rattle.grammar.proofs.Unique.{Separator}
use Rattle.grammar.specs.Grammar.{Blanks, Space, Name, Cp, Row, Names, Spec, Remark, Items}

-- no limit is spoken of; or a limit is passed at byte j, as the first n bytes tell
pub data Mode : Type 0 where
  plain : Mode
  limit : ℕ → ℕ → Mode

abbrev pub Claim : Type 1
Claim = ℕ → Mode → List ℕ → Type 0

-- a piece with limits L and what follows it: the limit is passed in what follows, or in the piece
pub data With (L : ℕ → ℕ → Type 0) (P : Mode → Type 0) : Mode → Type 0 where
  behind_it : {m : Mode} → P m → With L P m
  in_it : {j n : ℕ} → P plain → L j n → With L P (limit j n)

-- a piece with a tree, which may pass a limit, and what follows it
pub record Then {X : Type 0} (R : List ℕ → ℕ → ℕ → X → Type 0) (L : ℕ → X → ℕ → ℕ → Type 0) (K : Claim) (a : ℕ) (m : Mode) (u : List ℕ) : Type 0 where
  pub end : ℕ
  pub tree : X
  pub piece : R u a end tree
  pub rest : With (L a tree) (λ o. K end o u) m

-- a piece without a tree, and what follows it
pub record Piece (R : List ℕ → ℕ → ℕ → Type 0) (K : Claim) (a : ℕ) (m : Mode) (u : List ℕ) : Type 0 where
  pub end : ℕ
  pub piece : R u a end
  pub rest : K end m u

pub data Or (P Q : Claim) (a : ℕ) (m : Mode) (u : List ℕ) : Type 0 where
  this : P a m u → Or P Q a m u
  that : Q a m u → Or P Q a m u

abbrev pub LiteralThen : List ℕ → Claim → Claim
LiteralThen cs = Piece (λ u a b. Literal u cs a b)

abbrev pub BlanksThen : Claim → Claim
BlanksThen = Piece Blanks

abbrev pub SpaceThen : Claim → Claim
SpaceThen = Piece Space

-- one byte of the class, or none
pub data Maybe (class : ℕ → Bool) (u : List ℕ) : ℕ → ℕ → Type 0 where
  one : {a : ℕ} → Of class u a → Maybe class u a (suc a)
  none : {a : ℕ} → Maybe class u a a

abbrev pub MaybeThen : (ℕ → Bool) → Claim → Claim
MaybeThen class = Piece (Maybe class)

-- a 33rd byte at j
abbrev pub LongAt : ℕ → List ℕ → ℕ → ℕ → Type 0
LongAt a x j n = (32 < length x) × (j ≡ a + 32) × (n ≡ suc j)

abbrev pub NameThen : Claim → Claim
NameThen = Then Name LongAt

-- with this many groups still allowed, a particle passes a limit at j: a name that is too long, or a group that is too deep
abbrev mutual
  pub WideAt : ℕ → Particle → ℕ → ℕ → Type 0
  WideAt depth (name a x k) j n = LongAt a x j n
  WideAt zero (choice a ps k) j n = ((j ≡ a) × (n ≡ suc j)) ⊎ WideIn zero ps j n
  WideAt (suc depth) (choice a ps k) j n = WideIn depth ps j n
  WideAt zero (sequence a ps k) j n = ((j ≡ a) × (n ≡ suc j)) ⊎ WideIn zero ps j n
  WideAt (suc depth) (sequence a ps k) j n = WideIn depth ps j n

  pub WideIn : ℕ → Particles → ℕ → ℕ → Type 0
  WideIn depth (last p) j n = WideAt depth p j n
  WideIn depth (more p ps) j n = WideAt depth p j n ⊎ WideIn depth ps j n

abbrev pub ParticleThen : ℕ → Claim → Claim
ParticleThen depth = Then Cp (λ a. WideAt depth)

-- particles with a separator between them, and the `)`
abbrev pub RowThen : ℕ → ℕ → Claim → Claim
RowThen s depth = Then (λ u. Row u s) (λ a. WideIn depth)

-- the inside of a group and its `)`: a choice of two or more, or a sequence
pub data Inside (u : List ℕ) (a b : ℕ) : Particles → Type 0 where
  of_choice : {p : Particle} {ps : Particles} → Row u (code "|") a b (more p ps) → Inside u a b (more p ps)
  of_sequence : {ps : Particles} → Row u (code ",") a b ps → Inside u a b ps

abbrev pub InsideThen : ℕ → Claim → Claim
InsideThen depth = Then Inside (λ a. WideIn depth)

-- behind a particle and white space: the `)`, or the separator and more of the row
abbrev pub Closing : ℕ → ℕ → Claim → Claim
Closing s depth K = Or (LiteralThen (ascii ")") K) (LiteralThen (s ∷ []) (BlanksThen (RowThen s depth K)))

abbrev pub ChoiceRest : ℕ → Claim → Claim
ChoiceRest = Closing (code "|")

abbrev pub SequenceRest : ℕ → Claim → Claim
SequenceRest = Closing (code ",")

-- the same behind the first particle, where the separator is not yet known
abbrev pub Opening : ℕ → Claim → Claim
Opening depth K = Or (ChoiceRest depth K) (SequenceRest depth K)

-- the names of mixed content, from its first `|` on
pub data Mixed (u : List ℕ) : ℕ → ℕ → List Use → Type 0 where
  mixed : {a b c d : ℕ} {x : Use} {us : List Use} → Byte u a (code "|") → Blanks u (suc a) b → Name u b c x.bytes → x.place ≡ b → Names u c d us
      → Mixed u a d (x ∷ us)

-- a used name is too long
abbrev pub LongIn : List Use → ℕ → ℕ → Type 0
LongIn [] j n = ⊥
LongIn (x ∷ us) j n = LongAt x.place x.bytes j n ⊎ LongIn us j n

abbrev pub MixedLimit : ℕ → List Use → ℕ → ℕ → Type 0
MixedLimit a us j n = ((j ≡ a) × (n ≡ suc j)) ⊎ LongIn us j n

abbrev pub ContentLimit : Content → ℕ → ℕ → Type 0
ContentLimit is-empty j n = ⊥
ContentLimit is_text j n = ⊥
ContentLimit (is_any a) j n = (j ≡ a) × (n ≡ 3 + a)
ContentLimit (is_mixed a us) j n = MixedLimit a us j n
ContentLimit (is_children p) j n = WideAt 16 p j n

abbrev pub DeclarationLimit : Declaration → ℕ → ℕ → Type 0
DeclarationLimit d j n = LongAt d.place d.named j n ⊎ ContentLimit d.content j n

abbrev pub InSome : Mode → List Declaration → Type 0
InSome plain ds = Unit {0}
InSome (limit j n) [] = ⊥
InSome (limit j n) (d ∷ ds) = DeclarationLimit d j n ⊎ InSome (limit j n) ds

-- at least one declaration, unless one was seen before
abbrev pub Enough : Bool → List Declaration → Type 0
Enough true ds = Unit {0}
Enough false [] = ⊥
Enough false (d ∷ ds) = Unit {0}

-- items from a to the end of the text
pub record FromItems (seen : Bool) (a : ℕ) (m : Mode) (u : List ℕ) : Type 0 where
  pub trees : List Declaration
  pub items : Items u a trees
  pub enough : Enough seen trees
  pub limits : InSome m trees

-- behind a content, behind a declared name, behind '<!ELEMENT'
abbrev pub FromEnd : Claim
FromEnd = BlanksThen (LiteralThen (ascii ">") (FromItems true))

abbrev pub SpecThen : Claim → Claim
SpecThen = Then Spec (λ a. ContentLimit)

abbrev pub FromNamed : Claim
FromNamed = SpaceThen (SpecThen FromEnd)

abbrev pub FromElement : Claim
FromElement = SpaceThen (NameThen FromNamed)

-- in a comment, behind '<!', at an item
abbrev pub FromRemark : Bool → Claim
FromRemark seen = Piece Remark (FromItems seen)

abbrev pub FromKeyword : Claim
FromKeyword = LiteralThen (ascii "ELEMENT") FromElement

abbrev pub FromDashes : Bool → Claim
FromDashes seen = LiteralThen (ascii "--") (FromRemark seen)

abbrev pub FromOpen : Bool → Claim
FromOpen seen = Or FromKeyword (FromDashes seen)

abbrev pub FromItem : Bool → Claim
FromItem seen = LiteralThen (ascii "<!") (FromOpen seen)

-- behind '#PCDATA' and white space
abbrev pub is_star : ℕ → Bool
is_star b = eqb b (code "*")

abbrev pub TextThen : Claim → Claim
TextThen K = Or (LiteralThen (ascii ")") (MaybeThen is_star K)) (Then Mixed MixedLimit K)

-- behind the '(' of a content and white space
abbrev pub PcdataThen : Claim → Claim
PcdataThen K = LiteralThen (ascii "#PCDATA") (BlanksThen (TextThen K))

abbrev pub GroupThen : Claim → Claim
GroupThen K = Or (PcdataThen K) (InsideThen 15 (MaybeThen is_mark K))

-- where a particle stands: first in a group, or behind a separator, with the groups that are still allowed inside
pub data Frame : Type 0 where
  first : ℕ → Frame
  behind : (s : ℕ) → Separator s → ℕ → Frame

-- what follows a particle in these groups, the innermost first
abbrev pub Rest : List Frame → Claim
Rest [] = FromEnd
Rest (first depth ∷ fs) = BlanksThen (Opening depth (MaybeThen is_mark (Rest fs)))
Rest (behind s x depth ∷ fs) = BlanksThen (Closing s depth (MaybeThen is_mark (Rest fs)))

-- what follows the `)` of the innermost group
abbrev pub RestMarked : List Frame → Claim
RestMarked fs = MaybeThen is_mark (Rest fs)
