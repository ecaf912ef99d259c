use Rattle.std.proofs.Common.{◌≡◌, List, ℕ, Result, Ok, Err, OnOk, OnErr, if◌then◌else◌, is_ok, sym}
use Rattle.aio_wire.proofs.ShelvedLemmas.{with_appended-there, with_appended-made, files_of-unchanged}
use Rattle.aio_wire.proofs.mem_shelf.append_piece.Goals as goal

-- a fact on success, from what was there then
on_ok : {E : Type 0} (r : Result (Unit {0}) E) (new grown same : List ℕ) (P : Type 0) → new ≡ (if is_ok r then grown else same) → (new ≡ grown → P) → OnOk r P
on_ok (Ok done) new grown same P is gives = gives is
on_ok (Err cause) new grown same P is gives = tt

-- a fact on failure, from what stayed then
on_err : {E : Type 0} (r : Result (Unit {0}) E) (new grown same : List ℕ) (P : Type 0) → new ≡ (if is_ok r then grown else same) → (new ≡ same → P) → OnErr r P
on_err (Ok done) new grown same P is gives = tt
on_err (Err cause) new grown same P is gives = gives is

pub returns-in-Some-clause-ok : goal.returns-in-Some-clause-ok
returns-in-Some-clause-ok c =
    let wrote = (c.get_mut.follows.holds c.extend_from_slice.new.self).0 in
    on_ok c.extend_from_slice.result _ _ _ _ c.extend_from_slice.ensures.items
    (λ grew. with_appended-there c.args.name.now c.args.piece.now c.args.files.now.entries _ c.in-Some.bytes.now c.extend_from_slice.new.self
    (sym c.in-Some.ensures.value) grew wrote)

pub returns-in-Some-clause-err : goal.returns-in-Some-clause-err
returns-in-Some-clause-err c =
    let wrote = (c.get_mut.follows.holds c.extend_from_slice.new.self).0 in
    on_err c.extend_from_slice.result _ _ _ _ c.extend_from_slice.ensures.items
    (λ same. files_of-unchanged c.args.name.now c.args.piece.now c.args.files.now.entries _ c.in-Some.bytes.now c.extend_from_slice.new.self
    (sym c.in-Some.ensures.value) same wrote)

pub returns-in_ok-insert-in-None-clause-ok : goal.returns-in_ok-insert-in-None-clause-ok
returns-in_ok-insert-in-None-clause-ok c =
    with_appended-made c.args.name.now c.args.piece.now c.args.files.now.entries _ c.in_ok-key-in-None.key c.in_ok-bytes-in-None.bytes
    (sym c.in-None.ensures.value) c.in_ok-key-in-None.ensures.ok c.in_ok-bytes-in-None.ensures.items
    (let put = c.in_ok-insert-in-None.ensures.entries in rw c.get_mut.follows.holds-at-none at put)
