-- What a select did is what the record of a call says.
use Rattle.std.proofs.Common.{◌≡◌, ℕ, Bool, true, false, cond, ◌||◌, List, [], ◌∷◌, Option, Some, None, length}
use Rattle.std.proofs.Common.{refl, sym, ap, ◌∙◌, subst, arith}
use Rattle.std.specs.Prelude.{slice_get}
use Rattle.std.proofs.lemmas.Bool.{false≢true}
use Rattle.model_wire.specs.Call.{Item}
use Rattle.model_wire.specs.declared.call.Call.TheVariants as call
use Rattle.model_wire.specs.declared.watch.Watch.{Watch}
use Rattle.model_pump.specs.Posts.{Post}
use Rattle.model_hub.specs.declared.child.Child.{Child}
use Rattle.model_hub.specs.declared.child.Seats.{Seats}
use Rattle.model_hub.specs.declared.child.Stay.TheVariants.{Holding, Gone}
use Rattle.model_hub.specs.declared.halt.Halt.{Halt}
use Rattle.model_hub.specs.declared.halt.Halt.TheVariants.{Going, Faulted, Starving}
use Rattle.model_hub.specs.Children.{runs}
use Rattle.model_hub.specs.Hub.{Hub}
use Rattle.model_hub.specs.Others.{Lanes, Others, Polled, Ready, PollFailed, PollStarved, Back, Said, Failed, Memory, NotStarted}
use Rattle.model_hub.specs.Lanes.{serve, serve_child}
use Rattle.model_hub.specs.Gathering.{begin, gather}
use Rattle.model_hub.specs.Select.{polled_wait, polled_watch, kept_at_end, said_at, starves, is_taken_in, are_home, after_report, take_in, after_poll, select}
use Rattle.model_hub.specs.Calls.{ask}
use Rattle.model_hub.specs.Told.{PollerSeen, LauncherSeen, told_with}
use Rattle.model_hub.specs.Asked.{is_running, lane_of, TakesPolled}
use Rattle.aio_hub.specs.Launches.{StartsNone}
use Rattle.aio_serving.proofs.Same.{serve_same}
use Rattle.aio_lanes.specs.Given.{lanes_at, given_at, fulls_at}
use Rattle.aio_roster.proofs.Running.{kth_of}
use Rattle.aio_commands.specs.Commands.{Commands}
use Rattle.aio_commands.proofs.Together.{plain_commands}
use Rattle.aio_polling.specs.declared.ending.Selected.{Selected}
use Rattle.aio_polling.specs.declared.ending.Selected.TheVariants as selected
use Rattle.aio_polling.specs.Selects.{hub_of, hub_after, is_starved, said_of, selected_at, EndsSo, SelectsPolled}
use Rattle.aio_live.specs.States.{StateSeen, Plainly, heads_of, with_children}
use Rattle.aio_live.specs.Selecting.{SelectsItems, TakesOver, TakesAfter, SelectAsks}
use Rattle.aio_live.proofs.Asking.{running_at}
use Rattle.aio_live.proofs.Noting.{ran_map, ran_noted}

-- ---- what the others did
abbrev the_reports : {Run : Type 0} (said : Selected) (old new : StateSeen Run) → TakesAfter said old new → ℕ → List Back
the_reports (selected.Turn now items) old new over = over.takes.reports
the_reports selected.Faulted old new over = over.takes.reports
the_reports selected.Starved old new over = over.takes.reports
the_reports selected.Unpolled old new over = λ n. []

abbrev others_of : Lanes → Polled → List Post → (ℕ → List Back) → Others
others_of lanes polled posts reports =
    record { lanes = lanes; polled = polled; net = Failed; posts = posts; launching = NotStarted; reports = reports }

said_is : (halt : Halt) (now : ℕ) (items : List Item) → said_at halt now items ≡ said_of (selected_at halt now items)
said_is Going now items = refl
said_is Faulted now items = refl
said_is Starving now items = refl

not_unpolled : {A : Type 0} (halt : Halt) (now : ℕ) (items : List Item) → selected.Unpolled ≡ selected_at halt now items → A
not_unpolled Going now items h = absurd (cc)
not_unpolled Faulted now items h = absurd (cc)
not_unpolled Starving now items h = absurd (cc)

or_false : (b c : Bool) → c ≡ false → (b || c) ≡ b
or_false true c h = refl
or_false false c h = h

abbrev hub_at : List Child → List Item → List Seats → List Post → Bool → Hub
hub_at children kept free taken starved =
    record { children = children; kept = kept; free = free; taken = taken; starved = starved }

hub_same : (cs ds : List Child) (ks ls : List Item) (fs gs : List Seats) (ts us : List Post) (a b : Bool) → cs ≡ ds → ks ≡ ls → fs ≡ gs → ts ≡ us → a ≡ b
    → hub_at cs ks fs ts a ≡ hub_at ds ls gs us b
hub_same cs ds ks ls fs gs ts us a b hc hk hf ht hs =
    ap (λ (l : List Child). hub_at l ks fs ts a) hc ∙ ap (λ (l : List Item). hub_at ds l fs ts a) hk
    ∙ ap (λ (l : List Seats). hub_at ds ls l ts a) hf ∙ ap (λ (l : List Post). hub_at ds ls gs l a) ht
    ∙ ap (λ (x : Bool). hub_at ds ls gs us x) hs

module _ {Run : Type 0} (watched : List Watch) (s1 s2 s3 : StateSeen Run) (said : Selected) (free : s2.hub.free ≡ s1.hub.free)
    (starved : s2.hub.starved ≡ (is_starved said || s1.hub.starved)) (going : s1.hub.starved ≡ false) (lanes : Lanes) (posts : List Post) where
  abbrev now_hub : Hub
  now_hub = hub_after s2.hub.children s2.hub.kept s2.hub.taken said

  abbrev old_hub : Hub
  old_hub = hub_of s1.hub.children s1.hub.kept s1.hub.taken

  starved_is : s2.hub.starved ≡ is_starved said
  starved_is = starved ∙ or_false (is_starved said) s1.hub.starved going

  -- posts were taken, and children
  over_is : (now : ℕ) (sockets : List Item) → EndsSo now (gather watched (begin watched old_hub sockets) posts) old_hub said now_hub
      → (over : TakesOver s2 s3)
      → after_poll watched (others_of lanes (Ready now sockets) posts over.takes.reports) (Ready now sockets) s1.hub ≡ (s3.hub, said_of said)
  over_is now sockets ends over =
      let all = gather watched (begin watched old_hub sockets) posts in
      let mid = hub_same all.children s2.hub.children (kept_at_end all) s2.hub.kept s1.hub.free s2.hub.free all.taken s2.hub.taken
      (starves all.halt) s2.hub.starved (sym (ap (λ (h : Hub). h.children) ends.keeps)) (sym (ap (λ (h : Hub). h.kept) ends.keeps)) (sym free)
      (sym (ap (λ (h : Hub). h.taken) ends.keeps)) (sym (ap (λ (h : Hub). h.starved) ends.keeps) ∙ sym starved_is) in
      ap (λ (h : Hub). (take_in over.takes.reports h, said_at all.halt now all.items)) mid
      ∙ ap (λ (h : Hub). (h, said_at all.halt now all.items)) (over.takes.is s2.hub ∙ sym over.hub)
      ∙ ap (λ (s : Said). (s3.hub, s)) (said_is all.halt now all.items ∙ ap said_of (sym ends.says))

-- ---- its answer, and what it keeps
module _ {Run : Type 0} (watched : List Watch) (s1 s2 s3 : StateSeen Run) (free : s2.hub.free ≡ s1.hub.free)
    (going : s1.hub.starved ≡ false) (lanes : Lanes) (posts : List Post) where
  ready_is : (said : Selected) (starved : s2.hub.starved ≡ (is_starved said || s1.hub.starved)) (now : ℕ) (sockets : List Item)
      → EndsSo now (gather watched (begin watched (hub_of s1.hub.children s1.hub.kept s1.hub.taken) sockets) posts)
      (hub_of s1.hub.children s1.hub.kept s1.hub.taken) said (hub_after s2.hub.children s2.hub.kept s2.hub.taken said)
      → (after : TakesAfter said s2 s3)
      → after_poll watched (others_of lanes (Ready now sockets) posts (the_reports said s2 s3 after)) (Ready now sockets) s1.hub ≡ (s3.hub, said_of said)
  ready_is (selected.Turn at items) starved now sockets ends after =
      over_is watched s1 s2 s3 (selected.Turn at items) free starved going lanes posts now sockets ends after
  ready_is selected.Faulted starved now sockets ends after =
      over_is watched s1 s2 s3 selected.Faulted free starved going lanes posts now sockets ends after
  ready_is selected.Starved starved now sockets ends after =
      over_is watched s1 s2 s3 selected.Starved free starved going lanes posts now sockets ends after
  ready_is selected.Unpolled starved now sockets ends after =
      let all = gather watched (begin watched (hub_of s1.hub.children s1.hub.kept s1.hub.taken) sockets) posts in
      not_unpolled all.halt now all.items ends.says

  failed_is : (said : Selected) (starved : s2.hub.starved ≡ (is_starved said || s1.hub.starved)) → said ≡ selected.Unpolled
      → hub_after s2.hub.children s2.hub.kept s2.hub.taken said ≡ hub_of s1.hub.children s1.hub.kept s1.hub.taken
      → (after : TakesAfter said s2 s3)
      → after_poll watched (others_of lanes PollFailed posts (the_reports said s2 s3 after)) PollFailed s1.hub ≡ (s3.hub, said_of said)
  failed_is (selected.Turn at items) starved is same after = absurd (cc)
  failed_is selected.Faulted starved is same after = absurd (cc)
  failed_is selected.Starved starved is same after = absurd (cc)
  failed_is selected.Unpolled starved is same after =
      ap (λ (h : Hub). (h, Failed))
      (hub_same s1.hub.children s2.hub.children s1.hub.kept s2.hub.kept s1.hub.free s2.hub.free s1.hub.taken s2.hub.taken s1.hub.starved
      s2.hub.starved (sym (ap (λ (h : Hub). h.children) same)) (sym (ap (λ (h : Hub). h.kept) same)) (sym free)
      (sym (ap (λ (h : Hub). h.taken) same)) (sym starved)
      ∙ ap (λ (s : StateSeen Run). s.hub) (sym after))

  polled_is : (polled : Polled) (said : Selected) (starved : s2.hub.starved ≡ (is_starved said || s1.hub.starved))
      → SelectsPolled watched polled posts (hub_of s1.hub.children s1.hub.kept s1.hub.taken) said
      (hub_after s2.hub.children s2.hub.kept s2.hub.taken said)
      → (after : TakesAfter said s2 s3)
      → after_poll watched (others_of lanes polled posts (the_reports said s2 s3 after)) polled s1.hub ≡ (s3.hub, said_of said)
  polled_is (Ready now sockets) said starved ends after = ready_is said starved now sockets ends after
  polled_is PollFailed said starved ends after = failed_is said starved ends.0 ends.1 after
  polled_is PollStarved said starved ends after = absurd ends

takes_of : (watched : List Watch) (polled : Polled) (posts : List Post) (hub other : Hub) (n m k l : ℕ) → hub ≡ other → n ≡ k → l ≡ m
    → TakesPolled watched hub polled posts n m → TakesPolled watched other polled posts k l
takes_of watched polled posts hub other n m k l same first last takes =
    subst (λ (h : Hub). TakesPolled watched h polled posts k l) same
    (subst (λ x. TakesPolled watched hub polled posts x l) first (subst (λ x. TakesPolled watched hub polled posts n x) (sym last) takes))

takes_full : (watched : List Watch) (polled : Polled) (posts : List Post) (hub : Hub) (n m : ℕ)
    → TakesPolled watched (hub_of hub.children hub.kept hub.taken) polled posts n m → TakesPolled watched hub polled posts n m
takes_full watched (Ready now sockets) posts hub n m takes = takes
takes_full watched PollFailed posts hub n m takes = takes
takes_full watched PollStarved posts hub n m takes = takes

-- ---- who runs and which lanes stay, from the posts on
module _ {Run : Type 0} (s2 s3 : StateSeen Run) where
  after_runs : (r : ℕ → List Back) (hub : Hub) (child : Child) (b : Bool) → is_taken_in child ≡ b
      → runs (cond b (record child { stay = cond (are_home hub (r child.number) child.seats) Gone Holding }) child).stay ≡ true → runs child.stay ≡ true
  after_runs r hub child true is h = gone (are_home hub (r child.number) child.seats) h
    where
      gone : (b : Bool) → runs (cond b Gone Holding) ≡ true → runs child.stay ≡ true
      gone true h = absurd (false≢true h)
      gone false h = absurd (false≢true h)
  after_runs r hub child false is h = h

  over_ran : TakesOver s2 s3 → (n : ℕ) → is_running n s3.hub ≡ true → is_running n s2.hub ≡ true
  over_ran over n h =
      ran_map (after_report s2.hub over.takes.reports)
      (λ child goes. after_runs over.takes.reports s2.hub child (is_taken_in child) refl goes) s2.hub.children n
      (ap (λ (cs : List Child). elim (slice_get cs n) [ None ↦ false | Some child ↦ runs child.stay ])
      (ap (λ (x : Hub). x.children) (over.takes.is s2.hub)) ∙ h)

  over_lanes : TakesOver s2 s3 → (n : ℕ) → is_running n s3.hub ≡ true → lanes_at s3.lanes n ≡ lanes_at s2.lanes n
  over_lanes over n h =
      let at = running_at n s3.hub h in
      let kth = kth_of s3.hub.children n at.0 at.1 at.2 in
      over.keeps.running kth.0 n (kth.1 ∙ ap Some (over.numbered n at.0 at.1))

  after_ran : (said : Selected) → TakesAfter said s2 s3 → (n : ℕ) → is_running n s3.hub ≡ true → is_running n s2.hub ≡ true
  after_ran (selected.Turn now items) over n h = over_ran over n h
  after_ran selected.Faulted over n h = over_ran over n h
  after_ran selected.Starved over n h = over_ran over n h
  after_ran selected.Unpolled same n h = ap (λ (s : StateSeen Run). is_running n s.hub) (sym same) ∙ h

  after_lanes : (said : Selected) → TakesAfter said s2 s3 → (n : ℕ) → is_running n s3.hub ≡ true → lanes_at s3.lanes n ≡ lanes_at s2.lanes n
  after_lanes (selected.Turn now items) over n h = over_lanes over n h
  after_lanes selected.Faulted over n h = over_lanes over n h
  after_lanes selected.Starved over n h = over_lanes over n h
  after_lanes selected.Unpolled same n h = ap (λ (s : StateSeen Run). lanes_at s.lanes n) same

  after_nones : (said : Selected) → TakesAfter said s2 s3 → s3.nones ≡ s2.nones
  after_nones (selected.Turn now items) over = over.nones
  after_nones selected.Faulted over = over.nones
  after_nones selected.Starved over = over.nones
  after_nones selected.Unpolled same = ap (λ (s : StateSeen Run). s.nones) same

-- ---- the whole
is_it : (o : Option Child) (child : Child) → elim o [ None ↦ false | Some c ↦ runs c.stay ] ≡ true
    → elim o [ None ↦ child | Some c ↦ c ] ≡ child → o ≡ Some child
is_it None child goes is = absurd (false≢true goes)
is_it (Some c) child goes is = ap Some is

module _ {Run : Type 0} (wait : Option ℕ) (watched : List Watch) (poller poller_now : PollerSeen) (launcher launcher_now : LauncherSeen)
    (s0 s1 s2 s3 : StateSeen Run) (said : Selected) (plainly : Plainly watched s0 s1) (items : SelectsItems wait watched poller poller_now said s1 s2)
    (after : TakesAfter said s2 s3) (none : StartsNone launcher launcher_now) (going : s0.hub.starved ≡ false) where
  abbrev lanes : Lanes
  lanes = plainly.served.lanes

  abbrev others : Others
  others = others_of lanes items.selects.polled items.selects.posts (the_reports said s2 s3 after)

  served_hub : serve lanes watched s0.hub ≡ s1.hub
  served_hub = ap (λ (cs : List Child). with_children cs s0.hub) (sym plainly.served.is) ∙ sym plainly.rests.hub

  going_on : s1.hub.starved ≡ false
  going_on = ap (λ (h : Hub). h.starved) plainly.rests.hub ∙ going

  answer_is : ask (call.Select wait watched) others s0.hub ≡ (s3.hub, said_of said)
  answer_is =
      ap (λ b. cond b (s0.hub, Memory) (select watched others s0.hub)) going
      ∙ ap (λ (h : Hub). after_poll watched others items.selects.polled h) served_hub
      ∙ polled_is watched s1 s2 s3 items.free going_on lanes items.selects.posts items.selects.polled said items.starved items.selects.ends after

  commands : Commands (call.Select wait watched) lanes s0.hub.children (heads_of s0) (heads_of s1)
  commands =
      plain_commands (call.Select wait watched) s0.hub.children s1.hub.children (heads_of s0) (heads_of s1) plainly.rests.numbered plainly.served
      (λ child. refl)

  ran : (n : ℕ) → is_running n s3.hub ≡ true → is_running n s0.hub ≡ true
  ran n h =
      let in_two = after_ran s2 s3 said after n h in
      let in_one = ran_noted items.notes.posts s1.hub.children n
      (ap (λ (cs : List Child). elim (slice_get cs n) [ None ↦ false | Some child ↦ runs child.stay ]) (sym items.notes.notes) ∙ in_two) in
      ran_map (serve_child lanes watched) (λ child goes. ap runs (sym (serve_same lanes watched child).stay) ∙ goes) s0.hub.children n
      (ap (λ (cs : List Child). elim (slice_get cs n) [ None ↦ false | Some child ↦ runs child.stay ]) (sym plainly.served.is) ∙ in_one)

  lanes_same : (n : ℕ) → is_running n s3.hub ≡ true → lanes_at s3.lanes n ≡ lanes_at s1.lanes n
  lanes_same n h = after_lanes s2 s3 said after n h ∙ ap (λ l. lanes_at l n) items.lanes

  pub select_asks : SelectAsks wait watched poller poller_now launcher launcher_now s0 s3 said
  select_asks =
      record {
        others = others;
        is = answer_is;
        posts =
            takes_of watched items.selects.polled items.selects.posts s1.hub (serve lanes watched s0.hub) s1.nones s2.nones s0.nones s3.nones
            (sym served_hub) plainly.rests.nones (after_nones s2 s3 said after)
            (takes_full watched items.selects.polled items.selects.posts s1.hub s1.nones s2.nones items.selects.takes);
        lanes = λ child lane goes goes_on is.
            ap (λ o. given_at o lane) (lanes_same child.number goes_on)
            ∙ commands.given child.number child (is_it (slice_get s0.hub.children child.number) child goes is) lane;
        begins = λ number lane stays goes. absurd (false≢true (sym stays ∙ ran number goes));
        full = λ number offer goes goes_on is.
            let at = running_at number s0.hub goes in
            omega (
              arith,
              (commands.each number at.0 at.1 at.2 offer).full is,
              ap (λ o. fulls_at o (lane_of offer)) (lanes_same number goes_on),
            );
        spent = λ number offer goes goes_on is.
            let at = running_at number s0.hub goes in
            omega (
              arith,
              (commands.each number at.0 at.1 at.2 offer).spent is,
              plainly.rests.few number (lane_of offer),
              ap (λ o. length (given_at o (lane_of offer))) (lanes_same number goes_on),
            );
        polls =
            items.selects.asked
            ∙ ap (λ (h : Hub). told_with (call.Select (polled_wait watched h wait) (polled_watch watched) ∷ []) poller.asked) (sym served_hub);
        answers = items.selects.answers;
        keeps = items.selects.keeps;
        kills = none.1;
        launches = none.0;
        refused = tt;
        faults = refl;
      }
