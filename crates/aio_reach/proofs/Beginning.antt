-- What stands as nothing was asked.
use Rattle.std.proofs.Common.{◌≡◌, ℕ, zero, suc, List, [], ◌∷◌, map, refl, ap, subst}
use Rattle.model_loop.specs.Parts.{Parts}
use Rattle.model_gather.specs.Gathered.{Gathered, none_gathered}
use Rattle.model_sync.specs.Synced.{none_synced}
use Rattle.model_exec.specs.Execed.{none_execed}
use Rattle.model_dgram.specs.Endpoints.{none_opened}
use Rattle.law_runs.specs.Allowed.{IsAmong}
use Rattle.aio_task.specs.Keeps.{NameMap}
use Rattle.aio_extra.specs.Added.{KeepsNothing}
use Rattle.aio_gather.specs.Added as gather
use Rattle.aio_gather.specs.Kept.{HasTimer, drawn_as, kept_of}
use Rattle.aio_gather.specs.declared.drawn.Drawn.{Drawn}
use Rattle.aio_gather.specs.declared.gather.Gather.{Gather}
use Rattle.aio_sync.specs.Added as sync
use Rattle.aio_sync.specs.Seen as seen
use Rattle.aio_sync.specs.declared.requests.Sync.{Sync}
use Rattle.aio_exec.specs.Added as exec
use Rattle.aio_exec.specs.Seen as exec_seen
use Rattle.aio_exec.specs.declared.exec.Exec.{Exec}
use Rattle.aio_dgram.specs.Added as dgram
use Rattle.aio_dgram.specs.Seen as dgram_seen
use Rattle.aio_dgram.specs.declared.dgram.Dgram.{Dgram}
use Rattle.law_dgram.proofs.Tidying.{tidy_first}
use Rattle.aio_reach.specs.declared.four.Four.{Four}
use Rattle.aio_reach.specs.Routed.{first_reached, routed}

none_among : (id : ℕ) → IsAmong [] id → ⊥
none_among id (zero, e) = absurd (cc)
none_among id (suc place, e) = absurd (cc)

none_drawn : (tags : ℕ → ℕ) (items : List Drawn) → map (drawn_as tags) items ≡ [] → items ≡ []
none_drawn tags [] e = refl
none_drawn tags (it ∷ others) e = absurd (cc)

gather_stands : (x : Gather) → ((tags : ℕ → ℕ) → kept_of tags x ≡ none_gathered) → (t : NameMap) (p : Parts)
    → gather.StandsForKept t p x none_gathered
gather_stands x none t p =
    let no_items = none_drawn (λ number. 0) x.drawn.items (ap (λ (kept : Gathered). kept.drawn) (none (λ number. 0))) in
    record {
      tags = λ number. 0;
      same = none (λ number. 0);
      own = λ id own. absurd (none_among id own);
      timers = λ id has. absurd (subst (λ items. HasTimer items id) no_items has);
    }

sync_stands : (x : Sync) → seen.kept_of x ≡ none_synced → (t : NameMap) (p : Parts) → sync.StandsForKept t p x none_synced
sync_stands x none t p = (none, λ id own. absurd (none_among id own))

exec_stands : (x : Exec) → exec_seen.kept_of x ≡ none_execed → (t : NameMap) (p : Parts) → exec.StandsForKept t p x none_execed
exec_stands x none t p = (none, λ id own. absurd (none_among id own))

dgram_stands : (x : Dgram) → dgram_seen.kept_of x ≡ none_opened → (t : NameMap) → dgram.StandsForKept t x none_opened
dgram_stands x none t = record { seen = none; tidy = tidy_first; there = λ id own. absurd (none_among id own) }

pub begins : (x : Four Gather Sync Exec Dgram) → ((tags : ℕ → ℕ) → kept_of tags x.gather ≡ none_gathered)
    → seen.kept_of x.sync ≡ none_synced → exec_seen.kept_of x.exec ≡ none_execed
    → dgram_seen.kept_of x.dgram ≡ none_opened → KeepsNothing routed x first_reached
begins x gathers syncs execs dgrams = record {
  stands = λ t p. record {
    gather = gather_stands x.gather gathers t p;
    sync = sync_stands x.sync syncs t p;
    exec = exec_stands x.exec execs t p;
    dgram = dgram_stands x.dgram dgrams t;
  };
  names = record { tasks = refl; futures = refl; own = refl; tags = refl; values = refl };
}
