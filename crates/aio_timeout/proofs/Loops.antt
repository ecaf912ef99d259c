-- What the definitions make of the timeouts and of the parts, told apart.
use Rattle.std.proofs.Common.{◌≡◌, ℕ, ℤ, ◌<◌, Bool, true, false, not, ◌==◌, ◌&&◌, List, [], ◌∷◌, ◌++◌, Option, Some, None, length, map, filter, nat_le}
use Rattle.std.proofs.Common.{option_map, slice_set, refl, ap, sym, ◌∙◌, arith, if◌then◌else◌}
use Rattle.std.specs.Option.{option_map_or}
use Rattle.std.proofs.lemmas.Bool.{ne_eqb}
use Rattle.std.proofs.lemmas.List.{map-append, set-set, set_at, get_or-set_same, get_or_push, length_push}
use Rattle.std.proofs.lemmas.List.Elements.{filter-append}
use Rattle.model_value.specs.Action.{Action}
use Rattle.model_value.specs.declared.action.Action.TheVariants.{Fires}
use Rattle.model_value.specs.Value.{Exc}
use Rattle.model_loop.proofs.TimeoutCases.{leave_from}
use Rattle.model_loop.specs.Parts.{Handle, Timer, Parts}
use Rattle.model_loop.specs.Loop.{TimeoutState, Created, Active, Expiring, Expired, Finished, Timeout, Loop}
use Rattle.model_loop.specs.Handles.{deadline, soon, later, revoke, cancelled_if}
use Rattle.model_loop.specs.Tasks.{cancelling, uncancel, is_cancelled}
use Rattle.model_loop.specs.Timeouts.{no_timeout, timeout_of, give_up, without_handle, fires_at, schedule, make_timeout, enter_timeout, exit_timeout}
use Rattle.aio_timeout.specs.States.{is_expiring}
use Rattle.aio_timeout.specs.Scheduled.{fires_if, tag_if}

-- ---- the old handle may be given up after the new one is made
module _ (tag : ℕ) (p : Parts) (given : tag < p.next_tag) where
  other : (p.next_tag == tag) ≡ false
  other = ne_eqb p.next_tag tag (λ e. absurd (omega (arith, given, e)))

  revoke_soon : (action : Action) → soon action (revoke tag p) ≡ revoke tag (soon action p)
  revoke_soon action =
      let handle : Handle = record { stamp = p.next_stamp; tag = p.next_tag; action = action; dead = false } in
      let stays : cancelled_if tag handle ≡ handle = rw other refl in
      let pending : map (cancelled_if tag) (p.pending ++ handle ∷ []) ≡ map (cancelled_if tag) p.pending ++ handle ∷ [] =
      map-append (cancelled_if tag) p.pending (handle ∷ [])
      ∙ ap (λ (it : Handle). map (cancelled_if tag) p.pending ++ it ∷ []) stays in
      ap (λ (handles : List Handle). record (revoke tag (soon action p)) { pending = handles }) (sym pending)

  revoke_later : (when : ℕ) (action : Action) → later when action (revoke tag p) ≡ revoke tag (later when action p)
  revoke_later when action =
      let timer : Timer = record { when = when; tag = p.next_tag; action = action } in
      let test : Timer → Bool = λ (it : Timer). not (it.tag == tag) in
      let stays : filter test (timer ∷ []) ≡ timer ∷ [] = rw other refl in
      let timers : filter test (p.timers ++ timer ∷ []) ≡ filter test p.timers ++ timer ∷ [] =
      filter-append test p.timers (timer ∷ []) ∙ ap (λ (its : List Timer). filter test p.timers ++ its) stays in
      ap (λ (its : List Timer). record (revoke tag (later when action p)) { timers = its }) (sym timers)

  revoke_fires : (id when : ℕ) → fires_at id when (revoke tag p) ≡ revoke tag (fires_at id when p)
  revoke_fires id when = at (nat_le when p.time)
    where
      at : (b : Bool) → (if b then soon (Fires id) (revoke tag p) else later when (Fires id) (revoke tag p))
          ≡ revoke tag (if b then soon (Fires id) p else later when (Fires id) p)
      at true = revoke_soon (Fires id)
      at false = revoke_later when (Fires id)

pub give_up_after : (id : ℕ) (when : Option ℕ) (p : Parts) (old : Option ℕ) → ((tag : ℕ) → old ≡ Some tag → tag < p.next_tag)
    → give_up old (fires_if id when p) ≡ fires_if id when (give_up old p)
give_up_after id when p None given = refl
give_up_after id None p (Some tag) given = refl
give_up_after id (Some when) p (Some tag) given = sym (revoke_fires tag p (given tag refl) id when)

tag_after : (when : Option ℕ) (p : Parts) (old : Option ℕ) → tag_if when (give_up old p) ≡ tag_if when p
tag_after None p old = refl
tag_after (Some when) p None = refl
tag_after (Some when) p (Some tag) = refl

-- ---- another deadline, or none
scheduled : (id : ℕ) (when : Option ℕ) (l : Loop) → id < length l.timeouts
    → schedule id when l
    ≡ record l {
      parts = fires_if id when (give_up (timeout_of l id).tag l.parts);
      timeouts = slice_set l.timeouts id (record (timeout_of l id) { tag = tag_if when l.parts });
    }
scheduled id None l within = refl
scheduled id (Some when) l within =
    let bare : Timeout = record (timeout_of l id) { tag = None } in
    let p : Parts = give_up (timeout_of l id).tag l.parts in
    let same : timeout_of (without_handle id l) id ≡ bare = get_or-set_same l.timeouts id bare no_timeout within in
    let next : tag_if (Some when) p ≡ tag_if (Some when) l.parts = tag_after (Some when) l.parts (timeout_of l id).tag in
    let timeouts : slice_set (slice_set l.timeouts id bare) id (record (timeout_of (without_handle id l) id) { tag = Some p.next_tag })
    ≡ slice_set l.timeouts id (record (timeout_of l id) { tag = tag_if (Some when) l.parts }) =
    set-set l.timeouts id bare (record (timeout_of (without_handle id l) id) { tag = Some p.next_tag })
    ∙ ap (λ (it : Timeout). slice_set l.timeouts id (record it { tag = Some p.next_tag })) same
    ∙ ap (λ (tag : Option ℕ). slice_set l.timeouts id (record (timeout_of l id) { tag = tag })) next in
    ap (λ (its : List Timeout). record l { parts = fires_at id when p; timeouts = its }) timeouts

module _ (id : ℕ) (when : Option ℕ) (l : Loop) (within : id < length l.timeouts) where
  pub scheduled_parts : (schedule id when l).parts ≡ fires_if id when (give_up (timeout_of l id).tag l.parts)
  scheduled_parts = ap (λ (m : Loop). m.parts) (scheduled id when l within)

  pub scheduled_timeouts : (schedule id when l).timeouts
      ≡ slice_set l.timeouts id (record (timeout_of l id) { tag = tag_if when l.parts })
  scheduled_timeouts = ap (λ (m : Loop). m.timeouts) (scheduled id when l within)

-- ---- a block is entered
module _ (task : ℕ) (delay : Option ℤ) (l : Loop) where
  abbrev new : Timeout
  new = record { state = Active; task = task; stored = cancelling l.parts task; tag = None }

  abbrev when : Option ℕ
  when = option_map (deadline l.parts.time) delay

  within : length l.timeouts < length (make_timeout task l).timeouts
  within = let e = length_push l.timeouts new in omega (arith, e)

  made : timeout_of (make_timeout task l) (length l.timeouts) ≡ new
  made = get_or_push l.timeouts new no_timeout (length l.timeouts) refl

  pub entered_parts : (enter_timeout task delay l).parts
      ≡ fires_if (length l.timeouts) (option_map (deadline l.parts.time) delay) l.parts
  entered_parts =
      scheduled_parts (length l.timeouts) when (make_timeout task l) within
      ∙ ap (λ (it : Timeout). fires_if (length l.timeouts) when (give_up it.tag l.parts)) made

  pub entered_timeouts : (enter_timeout task delay l).timeouts
      ≡ l.timeouts ++ record {
        state = Active;
        task = task;
        stored = cancelling l.parts task;
        tag = tag_if (option_map (deadline l.parts.time) delay) l.parts;
      } ∷ []
  entered_timeouts =
      scheduled_timeouts (length l.timeouts) when (make_timeout task l) within
      ∙ ap (λ (it : Timeout). slice_set (l.timeouts ++ new ∷ []) (length l.timeouts) (record it { tag = tag_if when l.parts })) made
      ∙ set_at l.timeouts new [] (record new { tag = tag_if when l.parts }) (length l.timeouts) refl

-- ---- a block is left
pub expiring_is : (state : TimeoutState) → is_expiring state ≡ true → state ≡ Expiring
expiring_is Expiring h = refl
expiring_is Created h = cc
expiring_is Active h = cc
expiring_is Expired h = cc
expiring_is Finished h = cc

module _ (raised : Option Exc) (id : ℕ) (l : Loop) (within : id < length l.timeouts) where
  abbrev it : Timeout
  it = timeout_of l id

  bare : timeout_of (without_handle id l) id ≡ record (timeout_of l id) { tag = None }
  bare = get_or-set_same l.timeouts id (record (timeout_of l id) { tag = None }) no_timeout within

  module _ (expiring : (timeout_of l id).state ≡ Expiring) where
    pub late_parts : (exit_timeout raised id l).loop.parts
        ≡ uncancel l.profile (timeout_of l id).task (give_up (timeout_of l id).tag l.parts)
    late_parts =
        ap (λ (s : TimeoutState). (leave_from s raised id (without_handle id l)).loop.parts) expiring
        ∙ ap (λ (t : Timeout). uncancel l.profile t.task (give_up it.tag l.parts)) bare

    pub late_timeouts : (exit_timeout raised id l).loop.timeouts
        ≡ slice_set l.timeouts id (record (timeout_of l id) { state = Expired; tag = None })
    late_timeouts =
        ap (λ (s : TimeoutState). (leave_from s raised id (without_handle id l)).loop.timeouts) expiring
        ∙ ap (λ (t : Timeout). slice_set (without_handle id l).timeouts id (record t { state = Expired })) bare
        ∙ set-set l.timeouts id (record it { tag = None }) (record it { state = Expired; tag = None })

    pub late_answer : (exit_timeout raised id l).timed_out
        ≡ nat_le (cancelling (uncancel l.profile (timeout_of l id).task (give_up (timeout_of l id).tag l.parts)) (timeout_of l id).task)
        (timeout_of l id).stored
        && option_map_or is_cancelled raised false
    late_answer =
        ap (λ (s : TimeoutState). (leave_from s raised id (without_handle id l)).timed_out) expiring
        ∙ ap (λ (t : Timeout). nat_le (cancelling (uncancel l.profile t.task (give_up it.tag l.parts)) t.task) t.stored
        && option_map_or is_cancelled raised false) bare

  module _ (early : is_expiring (timeout_of l id).state ≡ false) where
    pub early_parts : (exit_timeout raised id l).loop.parts ≡ give_up (timeout_of l id).tag l.parts
    early_parts = at (timeout_of l id).state early
      where
        at : (s : TimeoutState) → is_expiring s ≡ false
            → (leave_from s raised id (without_handle id l)).loop.parts ≡ give_up (timeout_of l id).tag l.parts
        at Created h = refl
        at Active h = refl
        at Expiring h = cc
        at Expired h = refl
        at Finished h = refl

    pub early_timeouts : (exit_timeout raised id l).loop.timeouts
        ≡ slice_set l.timeouts id (record (timeout_of l id) { state = Finished; tag = None })
    early_timeouts = at (timeout_of l id).state early
      where
        finished : slice_set (without_handle id l).timeouts id (record (timeout_of (without_handle id l) id) { state = Finished })
            ≡ slice_set l.timeouts id (record (timeout_of l id) { state = Finished; tag = None })
        finished =
            ap (λ (t : Timeout). slice_set (without_handle id l).timeouts id (record t { state = Finished })) bare
            ∙ set-set l.timeouts id (record it { tag = None }) (record it { state = Finished; tag = None })

        at : (s : TimeoutState) → is_expiring s ≡ false
            → (leave_from s raised id (without_handle id l)).loop.timeouts
            ≡ slice_set l.timeouts id (record (timeout_of l id) { state = Finished; tag = None })
        at Created h = finished
        at Active h = finished
        at Expiring h = cc
        at Expired h = finished
        at Finished h = finished

    pub early_answer : (exit_timeout raised id l).timed_out ≡ false
    early_answer = at (timeout_of l id).state early
      where
        at : (s : TimeoutState) → is_expiring s ≡ false → (leave_from s raised id (without_handle id l)).timed_out ≡ false
        at Created h = refl
        at Active h = refl
        at Expiring h = cc
        at Expired h = refl
        at Finished h = refl
