-- Each of the four parts in the whole, and which of them it is.
use Rattle.std.proofs.Common.{◌≡◌, ℕ, List, Some, None, refl, ap, ◌∙◌}
use Rattle.std.specs.Prelude.{◌%◌, ◌==◌, if◌then◌else◌}
use Rattle.std.proofs.lemmas.Bool.{ne_eqb}
use Rattle.model_loop.specs.Parts.{Parts}
use Rattle.model_machine.specs.Sound.{AreKept, Ids}
use Rattle.model_reach.specs.Reach.{Part, OfGather, OfSync, OfExec, OfDgram, part_of_hundred, part_of_key}
use Rattle.law_parted.proofs.Lists.{in_first, in_fourth, in_second, in_third}
use Rattle.law_parted.proofs.Together.{AllKept, apart}
use Rattle.aio_extra.specs.Added.{Added}
use Rattle.aio_reach.specs.declared.four.Four.{Four}
use Rattle.aio_reach.specs.Fours.{AreKeyed, FourKept, four_added, go_on}
use Rattle.aio_reach.proofs.Lifting.{Holds}
use Rattle.aio_reach.proofs.Routing.{IsPart}

module _ {X Y Z W : Type 0} (a : Added X) (b : Added Y) (c : Added Z) (d : Added W) (keyed : AreKeyed a b c d) where
  abbrev four : Added (Four X Y Z W)
  four = four_added a b c d keyed

  pub all_of : (ids : Ids) (kept : FourKept a b c d) (futures : List ℕ) (p : Parts) → AreKept ids (four.meaning.keeps kept) futures p
      → AllKept ids (a.meaning.keeps kept.gather) (b.meaning.keeps kept.sync) (c.meaning.keeps kept.exec) (d.meaning.keeps kept.dgram)
      (four.meaning.keeps kept).has_key futures p
  all_of ids kept futures p is =
      apart ids (a.meaning.keeps kept.gather) (b.meaning.keeps kept.sync) (c.meaning.keeps kept.exec) (d.meaning.keeps kept.dgram)
      (four.meaning.keeps kept).has_key futures p is

  abbrev pub gather_holds : Holds (four_added a b c d keyed) a
  gather_holds = record {
    get = λ x. x.gather;
    put = λ y x. record x { gather = y };
    part = λ kept. kept.gather;
    back = λ it kept. record kept { gather = it };
    stands = λ t p x kept h. h.gather;
    kept = λ ids kept futures p is. (all_of ids kept futures p is).first;
    stands_put = λ t u p q x kept y it h beside now.
        let on = go_on a b c d t u p q x kept h beside in record { gather = now; sync = on.sync; exec = on.exec; dgram = on.dgram };
    own_put = λ it kept id own.
        in_first (a.meaning.keeps it).own (b.meaning.keeps kept.sync).own (c.meaning.keeps kept.exec).own (d.meaning.keeps kept.dgram).own id own;
  }

  pub gather_is : IsPart a b c d keyed a OfGather gather_holds
  gather_is = record {
    ask = λ task code items s. refl;
    wake = λ key input s. refl;
    act = λ key s. refl;
    item = λ code bytes s. refl;
    keys = λ kept key. refl;
  }

  abbrev pub sync_holds : Holds (four_added a b c d keyed) b
  sync_holds = record {
    get = λ x. x.sync;
    put = λ y x. record x { sync = y };
    part = λ kept. kept.sync;
    back = λ it kept. record kept { sync = it };
    stands = λ t p x kept h. h.sync;
    kept = λ ids kept futures p is. (all_of ids kept futures p is).second;
    stands_put = λ t u p q x kept y it h beside now.
        let on = go_on a b c d t u p q x kept h beside in record { gather = on.gather; sync = now; exec = on.exec; dgram = on.dgram };
    own_put = λ it kept id own.
        in_second (a.meaning.keeps kept.gather).own (b.meaning.keeps it).own (c.meaning.keeps kept.exec).own (d.meaning.keeps kept.dgram).own id own;
  }

  pub sync_is : IsPart a b c d keyed b OfSync sync_holds
  sync_is = record {
    ask = λ task code items s. refl;
    wake = λ key input s. refl;
    act = λ key s. refl;
    item = λ code bytes s. refl;
    keys = λ kept key. refl;
  }

  abbrev pub exec_holds : Holds (four_added a b c d keyed) c
  exec_holds = record {
    get = λ x. x.exec;
    put = λ y x. record x { exec = y };
    part = λ kept. kept.exec;
    back = λ it kept. record kept { exec = it };
    stands = λ t p x kept h. h.exec;
    kept = λ ids kept futures p is. (all_of ids kept futures p is).third;
    stands_put = λ t u p q x kept y it h beside now.
        let on = go_on a b c d t u p q x kept h beside in record { gather = on.gather; sync = on.sync; exec = now; dgram = on.dgram };
    own_put = λ it kept id own.
        in_third (a.meaning.keeps kept.gather).own (b.meaning.keeps kept.sync).own (c.meaning.keeps it).own (d.meaning.keeps kept.dgram).own id own;
  }

  pub exec_is : IsPart a b c d keyed c OfExec exec_holds
  exec_is = record {
    ask = λ task code items s. refl;
    wake = λ key input s. refl;
    act = λ key s. refl;
    item = λ code bytes s. refl;
    keys = λ kept key. refl;
  }

  abbrev pub dgram_holds : Holds (four_added a b c d keyed) d
  dgram_holds = record {
    get = λ x. x.dgram;
    put = λ y x. record x { dgram = y };
    part = λ kept. kept.dgram;
    back = λ it kept. record kept { dgram = it };
    stands = λ t p x kept h. h.dgram;
    kept = λ ids kept futures p is. (all_of ids kept futures p is).fourth;
    stands_put = λ t u p q x kept y it h beside now.
        let on = go_on a b c d t u p q x kept h beside in record { gather = on.gather; sync = on.sync; exec = on.exec; dgram = now };
    own_put = λ it kept id own.
        in_fourth (a.meaning.keeps kept.gather).own (b.meaning.keeps kept.sync).own (c.meaning.keeps kept.exec).own (d.meaning.keeps it).own id own;
  }

  pub dgram_is : IsPart a b c d keyed d OfDgram dgram_holds
  dgram_is = record {
    ask = λ task code items s. refl;
    wake = λ key input s. refl;
    act = λ key s. refl;
    item = λ code bytes s. refl;
    keys = λ kept key. refl;
  }

-- ---- which part it is
abbrev of_rest : ℕ → Part
of_rest rest = if rest == 0 then OfGather else (if rest == 1 then OfSync else (if rest == 2 then OfExec else OfDgram))

pub gather_key : (key : ℕ) → key % 4 ≡ 0 → part_of_key key ≡ OfGather
gather_key key e = ap of_rest e

pub sync_key : (key : ℕ) → key % 4 ≡ 1 → part_of_key key ≡ OfSync
sync_key key e = ap of_rest e

pub exec_key : (key : ℕ) → key % 4 ≡ 2 → part_of_key key ≡ OfExec
exec_key key e = ap of_rest e

pub dgram_key : (key : ℕ) → (key % 4 ≡ 0 → ⊥) → (key % 4 ≡ 1 → ⊥) → (key % 4 ≡ 2 → ⊥) → part_of_key key ≡ OfDgram
dgram_key key first second third =
    ap (λ test. if test then OfGather else (if key % 4 == 1 then OfSync else (if key % 4 == 2 then OfExec else OfDgram))) (ne_eqb (key % 4) 0 first)
    ∙ ap (λ test. if test then OfSync else (if key % 4 == 2 then OfExec else OfDgram)) (ne_eqb (key % 4) 1 second)
    ∙ ap (λ test. if test then OfExec else OfDgram) (ne_eqb (key % 4) 2 third)

pub nobodys : (hundred : ℕ) → (hundred ≡ 1 → ⊥) → (hundred ≡ 2 → ⊥) → (hundred ≡ 3 → ⊥) → (hundred ≡ 4 → ⊥) → part_of_hundred hundred ≡ None
nobodys hundred first second third fourth =
    ap (λ test. if test then Some OfGather
    else (if hundred == 2 then Some OfSync else (if hundred == 3 then Some OfExec else (if hundred == 4 then Some OfDgram else None))))
    (ne_eqb hundred 1 first)
    ∙ ap (λ test. if test then Some OfSync else (if hundred == 3 then Some OfExec else (if hundred == 4 then Some OfDgram else None)))
    (ne_eqb hundred 2 second)
    ∙ ap (λ test. if test then Some OfExec else (if hundred == 4 then Some OfDgram else None)) (ne_eqb hundred 3 third)
    ∙ ap (λ test. if test then Some OfDgram else None) (ne_eqb hundred 4 fourth)
