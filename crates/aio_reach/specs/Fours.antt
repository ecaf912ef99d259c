-- Four parts that serve requests, in code and in the machine.
use Rattle.std.specs.Prelude.{ℕ}
use Rattle.model_loop.specs.Parts.{Parts}
use Rattle.model_machine.specs.Extra.{KeepsKeys}
use Rattle.model_reach.specs.Reach.{OfGather, OfSync, OfExec, OfDgram, Parted, reach}
use Rattle.law_runs.specs.Allowed.{IsAmong}
use Rattle.law_parted.specs.Keys.{HasKeysOf}
use Rattle.law_parted.proofs.Lists.{in_first, in_fourth, in_second, in_third}
use Rattle.law_parted.proofs.Reaching.{reach_allowed, reach_falls}
use Rattle.aio_task.specs.Keeps.{NameMap}
use Rattle.aio_extra.specs.Added.{Added, GoesBeside}
use Rattle.aio_reach.specs.declared.four.Four.{Four}

-- of fewer futures
pub less : (t u : NameMap) (p q : Parts) (owned fewer : ℕ → Type 0) → ((id : ℕ) → fewer id → owned id) → GoesBeside owned t p u q → GoesBeside fewer t p u q
less t u p q owned fewer on beside = record {
  known = beside.known;
  tags = beside.tags;
  gone = λ id own. beside.gone id (on id own);
  futures = beside.futures;
  plain = beside.plain;
  owners = beside.owners;
}

module _ {X Y Z W : Type 0} (a : Added X) (b : Added Y) (c : Added Z) (d : Added W) where
  abbrev pub FourKept : Type 0
  FourKept = Parted a.Kept b.Kept c.Kept d.Kept

  -- the keys of each are of its number, and stay
  pub record AreKeyed : Type 0 where
    pub gather : HasKeysOf OfGather a.meaning
    pub sync : HasKeysOf OfSync b.meaning
    pub exec : HasKeysOf OfExec c.meaning
    pub dgram : HasKeysOf OfDgram d.meaning
    pub gather_keys : KeepsKeys a.meaning
    pub sync_keys : KeepsKeys b.meaning
    pub exec_keys : KeepsKeys c.meaning
    pub dgram_keys : KeepsKeys d.meaning

  pub record AreFour (t : NameMap) (p : Parts) (x : Four X Y Z W) (kept : Parted a.Kept b.Kept c.Kept d.Kept) : Type 0 where
    pub gather : a.stands t p x.gather kept.gather
    pub sync : b.stands t p x.sync kept.sync
    pub exec : c.stands t p x.exec kept.exec
    pub dgram : d.stands t p x.dgram kept.dgram

  abbrev pub own_all : Parted a.Kept b.Kept c.Kept d.Kept → ℕ → Type 0
  own_all kept id = IsAmong ((reach a.meaning b.meaning c.meaning d.meaning).keeps kept).own id

  pub go_on : (t u : NameMap) (p q : Parts) (x : Four X Y Z W) (kept : Parted a.Kept b.Kept c.Kept d.Kept) → AreFour t p x kept
      → GoesBeside (own_all kept) t p u q → AreFour u q x kept
  go_on t u p q x kept h beside =
      let ones = (a.meaning.keeps kept.gather).own in
      let twos = (b.meaning.keeps kept.sync).own in
      let threes = (c.meaning.keeps kept.exec).own in
      let fours = (d.meaning.keeps kept.dgram).own in
      record {
        gather = a.goes_on t u p q x.gather kept.gather h.gather
            (less t u p q (own_all kept) (IsAmong ones) (λ id own. in_first ones twos threes fours id own) beside);
        sync = b.goes_on t u p q x.sync kept.sync h.sync
            (less t u p q (own_all kept) (IsAmong twos) (λ id own. in_second ones twos threes fours id own) beside);
        exec = c.goes_on t u p q x.exec kept.exec h.exec
            (less t u p q (own_all kept) (IsAmong threes) (λ id own. in_third ones twos threes fours id own) beside);
        dgram = d.goes_on t u p q x.dgram kept.dgram h.dgram
            (less t u p q (own_all kept) (IsAmong fours) (λ id own. in_fourth ones twos threes fours id own) beside);
      }

  abbrev pub four_added : AreKeyed → Added (Four X Y Z W)
  four_added keyed =
      record {
        Kept = Parted a.Kept b.Kept c.Kept d.Kept;
        meaning = reach a.meaning b.meaning c.meaning d.meaning;
        stands = AreFour;
        goes_on = go_on;
        allowed = reach_allowed a.meaning b.meaning c.meaning d.meaning keyed.gather keyed.sync keyed.exec keyed.dgram
            a.allowed b.allowed c.allowed d.allowed;
        falls = reach_falls a.meaning b.meaning c.meaning d.meaning keyed.gather_keys keyed.sync_keys keyed.exec_keys keyed.dgram_keys
            a.falls b.falls c.falls d.falls;
      }
