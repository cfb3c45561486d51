-- What is known of a pair of maps that was checked, and of the marks that it is spelled into. Assumes nothing.
use Rattle.std.proofs.Common.{◌≡◌, ℕ, ◌-◌, ◌≤◌, List, length, replicate, take, refl, arith}
use Rattle.std.proofs.Math.Nat.{sub-zero}
use Rattle.table.specs.Privilege.{privileges}
use Rattle.table.proofs.Facts.{facts}
use Rattle.policy.specs.Marks.{Policy}
use Rattle.pairs.specs.Maps.{Maps, MapPolicy, marks_for}
use Rattle.pairs.specs.Steps.Checking.{MapsAnswer}
use Rattle.pairs.specs.Steps.Spelling.{Holds, Spelled}
use Rattle.pairs.proofs.Paired.{maps_fit}
use Rattle.pairs.proofs.Spells.{spells_policy, spell_room, spelled_front, spelled_whole}

pub record Known (ws : List ℕ) (m : Maps) (v : ℕ) : Type 0 where
  pub pair : MapPolicy ws m
  pub size : v ≡ privileges ws
  pub few : v ≤ 4096
  pub room : (length m.allowed ≤ 512) × (length m.forbidden ≡ length m.allowed)

pub known : {ws : List ℕ} {m : Maps} {v : ℕ} → MapsAnswer ws m 0 v → Known ws m v
known a =
    let p = maps_fit refl a in
    let few = (facts p.0.accepted).privileges_few in
    record { pair = p.0; size = p.1; few = omega (arith, p.1, few); room = spell_room p.0.paired.sized few }

-- the first v marks are those that the pair spells, and behind them are zeros still
module _ {ws : List ℕ} {m : Maps} {v : ℕ} {run : List ℕ} (k : Known ws m v) (s : Spelled (length m.allowed) m (replicate 4096 0) run) where
  pub front : take v run ≡ marks_for ws m
  front = rw k.size (spelled_front k.pair.paired (rw k.size at k.few) s)

  pub front_lent : take (v - 0) run ≡ marks_for ws m
  front_lent = rw sub-zero front

  pub front_policy : Policy ws (take v run)
  front_policy = rw front (spells_policy k.pair)

  pub whole : Holds (take v run) run
  whole = rw k.size (spelled_whole k.pair.paired (rw k.size at k.few) s)
