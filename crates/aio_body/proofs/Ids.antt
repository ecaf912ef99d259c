-- The code has made as many of each kind as the state that it stands for.
use Rattle.std.proofs.Common.{◌≡◌, ℕ, suc, List, [], ◌∷◌, Option, length, slice_get, refl, sym, ap, ◌∙◌}
use Rattle.model_loop.specs.Loop.{Group}
use Rattle.model_loop.specs.Parts.{Parts}
use Rattle.model_loop.specs.Tasks.{next_task}
use Rattle.model_machine.specs.Sound.{Ids, ids_of}
use Rattle.model_machine.specs.State.{State}
use Rattle.model_stream.specs.Children.{Child}
use Rattle.model_stream.specs.Connections.{Connection}
use Rattle.model_stream.specs.Listeners.{Server}
use Rattle.aio_task.specs.Keeps.{NameMap}
use Rattle.aio_timeout.proofs.Zips.{zip_length}
use Rattle.aio_timeout.specs.Kept.{IsTimeout}
use Rattle.aio_group.specs.Held.{Held}
use Rattle.aio_group.specs.Stands.{KeepsAt}
use Rattle.aio_extra.specs.Added.{Added}
use Rattle.aio_body.specs.declared.run_state.RunState.{RunState}
use Rattle.aio_body.specs.Ids.{ids_in}
use Rattle.aio_body.specs.Stands.{Context, Stands}

-- groups stand for as many
groups_length : (t : NameMap) (p : Parts) (held : List Held) (groups : List Group)
    → ((id : ℕ) → KeepsAt t p (slice_get held id) (slice_get groups id)) → length held ≡ length groups
groups_length t p [] [] each = refl
groups_length t p [] (group ∷ groups) each = absurd (each 0)
groups_length t p (one ∷ held) [] each = absurd (each 0)
groups_length t p (one ∷ held) (group ∷ groups) each = ap (λ n. suc n) (groups_length t p held groups (λ id. each (suc id)))

abbrev ids_from : (tasks futures timeouts groups servers connections children : ℕ) → Ids
ids_from tasks futures timeouts groups servers connections children =
    record {
      tasks = tasks;
      futures = futures;
      timeouts = timeouts;
      groups = groups;
      servers = servers;
      connections = connections;
      children = children;
    }

ids_same : (a b c d e f g h i j k l m n : ℕ) → a ≡ h → b ≡ i → c ≡ j → d ≡ k → e ≡ l → f ≡ m → g ≡ n
    → ids_from a b c d e f g ≡ ids_from h i j k l m n
ids_same a b c d e f g h i j k l m n first second third fourth fifth sixth seventh =
    ap (λ x. ids_from x b c d e f g) first ∙ ap (λ x. ids_from h x c d e f g) second ∙ ap (λ x. ids_from h i x d e f g) third
    ∙ ap (λ x. ids_from h i j x e f g) fourth ∙ ap (λ x. ids_from h i j k x f g) fifth ∙ ap (λ x. ids_from h i j k l x g) sixth
    ∙ ap (λ x. ids_from h i j k l m x) seventh

pub ids_as : {X : Type 0} {a : Added X} (out : Option ℕ) (c : Context a) (body : RunState X) (s : State a.Kept) → Stands out c body s
    → ids_in body ≡ ids_of s
ids_as out c body s h =
    ids_same (length body.slots.items) (length body.futures.items) (length body.timeouts) (length body.groups)
    (length body.transports.streams.servers) (length body.transports.streams.connections) (length body.transports.children.children)
    (next_task s.loop.parts) (length s.futures) (length s.loop.timeouts) (length s.loop.groups)
    (length s.streams.servers) (length s.streams.connections) (length s.streams.children)
    h.made (ap (λ (xs : List ℕ). length xs) h.futures)
    (zip_length (IsTimeout h.name_map s.loop.parts) body.timeouts s.loop.timeouts h.blocks.timeouts)
    (groups_length h.name_map s.loop.parts body.groups s.loop.groups h.blocks.groups)
    (sym (ap (λ (xs : List Server). length xs) h.transports.streams.servers))
    (sym (ap (λ (xs : List Connection). length xs) h.transports.streams.connections))
    (sym (ap (λ (xs : List Child). length xs) h.transports.children.children))
