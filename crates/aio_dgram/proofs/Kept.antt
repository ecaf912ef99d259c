-- What is kept, as code changes it.
use Rattle.std.proofs.Common.{◌≡◌, ℕ, ◌<◌, List, [], ◌∷◌, Option, Some, None, ap, subst, ◌∙◌}
use Rattle.std.specs.Prelude.{IfNone, MatchOption}
use Rattle.std.specs.BTreeMap.{is_at}
use Rattle.std.specs.List.{AllByRecursion as Each}
use Rattle.std.specs.Map.{lookup, set_value}
use Rattle.std.specs.Ordering.{nat_cmp}
use Rattle.model_sync.specs.Synced.{is_place}
use Rattle.model_dgram.specs.Texts.{Datagram, offer_text}
use Rattle.model_dgram.specs.Endpoints.{Endpoint, Endpoints, Sends, Waiting, endpoint_at, set_endpoint, wait_again, waiting_at}
use Rattle.law_dgram.specs.Tidy.{IsTidy}
use Rattle.law_dgram.proofs.Tidying.{lined_at}
use Rattle.aio_dgram.specs.Keeps.{offering}
use Rattle.aio_dgram.proofs.Places.{found, is_found, set_at, set_same}

-- of an endpoint that is found
pub line_below : (x : Endpoints) → IsTidy x → (id : ℕ) (now : Endpoint) → Some now ≡ lookup (is_at (nat_cmp id)) x.endpoints
    → Each (λ place. place < x.drawn) now.senders
line_below x tidy id now e = lined_at x tidy id now (found x.endpoints id (Some now) e)

-- one endpoint changed
pub changed : (x : Endpoints) (es : List (ℕ × Endpoint)) (id : ℕ) (new : Endpoint) → es ≡ set_value (is_at (nat_cmp id)) x.endpoints new
    → record x { endpoints = es } ≡ set_endpoint id new x
changed x es id new e = ap (λ ys. record x { endpoints = ys }) (e ∙ set_at x.endpoints id new)

-- or stayed
pub stayed : (x : Endpoints) (es : List (ℕ × Endpoint)) (id : ℕ) (now new : Endpoint) → Some now ≡ lookup (is_at (nat_cmp id)) x.endpoints
    → es ≡ set_value (is_at (nat_cmp id)) x.endpoints new → new ≡ now → record x { endpoints = es } ≡ x
stayed x es id now new here e same =
    changed x es id new e ∙ ap (λ it. set_endpoint id it x) same
    ∙ ap (λ ys. record x { endpoints = ys }) (set_same (is_place id) x.endpoints now (found x.endpoints id (Some now) here))

-- ---- the first that is held
abbrev pub Takes : Option Datagram → (now new : Endpoint) → Type 0
Takes o now new =
    MatchOption o ((now.held ≡ []) × (new ≡ now)) (λ first. (others : List Datagram) × (now.held ≡ first ∷ others) × (new ≡ record now { held = others }))

abbrev pub TakesOf : Option Datagram → (id : ℕ) (endpoint : Endpoint) (x y : Endpoints) → Type 0
TakesOf o id endpoint x y =
    MatchOption o ((endpoint.held ≡ []) × (y ≡ x))
    (λ first. (others : List Datagram) × (endpoint.held ≡ first ∷ others) × (y ≡ set_endpoint id (record endpoint { held = others }) x))

pub takes : (x : Endpoints) (es : List (ℕ × Endpoint)) (id : ℕ) (now new : Endpoint) (o : Option Datagram)
    → Some now ≡ lookup (is_at (nat_cmp id)) x.endpoints → es ≡ set_value (is_at (nat_cmp id)) x.endpoints new → Takes o now new
    → (endpoint : Endpoint) → endpoint_at id x ≡ Some endpoint → TakesOf o id endpoint x (record x { endpoints = es })
takes x es id now new o here e h endpoint at = subst (λ it. TakesOf o id it x (record x { endpoints = es })) (is_found x.endpoints id now endpoint here at) (by o h)
  where
    by : (o : Option Datagram) → Takes o now new → TakesOf o id now x (record x { endpoints = es })
    by None h = (h.0, stayed x es id now new here e h.1)
    by (Some first) h = (h.0, h.1, changed x es id new e ∙ ap (λ it. set_endpoint id it x) h.2)

pub takes_none : (x : Endpoints) (es : List (ℕ × Endpoint)) (id : ℕ) (now new : Endpoint) (o : Option Datagram)
    → Some now ≡ lookup (is_at (nat_cmp id)) x.endpoints → es ≡ set_value (is_at (nat_cmp id)) x.endpoints new → Takes o now new
    → IfNone o (record x { endpoints = es } ≡ x)
takes_none x es id now new None here e h = stayed x es id now new here e h.1
takes_none x es id now new (Some first) here e h = tt

-- ---- what is asked again
pub asks_text : (x : Endpoints) (place : ℕ) (now : Waiting) (text : List ℕ) → Some now ≡ lookup (is_at (nat_cmp place)) x.waiting
    → ((id : ℕ) (it : Datagram) (on : ℕ) → now ≡ Sends id it on → text ≡ offer_text id it)
    → (id : ℕ) (it : Datagram) (on : ℕ) → waiting_at place x ≡ Some (Sends id it on) → text ≡ offer_text id it
asks_text x place now text here h id it on e = h id it on (is_found x.waiting place now (Sends id it on) here e)

pub asks_after : (x : Endpoints) (ws : List (ℕ × Waiting)) (place : ℕ) (now new : Waiting) → Some now ≡ lookup (is_at (nat_cmp place)) x.waiting
    → ws ≡ set_value (is_at (nat_cmp place)) x.waiting new → new ≡ offering now → (it : Waiting) → waiting_at place x ≡ Some it
    → record x { waiting = ws } ≡ wait_again place (offering it) x
asks_after x ws place now new here e after it is =
    ap (λ ys. record x { waiting = ys }) (e ∙ set_at x.waiting place new)
    ∙ ap (λ new_. wait_again place new_ x) (after ∙ ap offering (is_found x.waiting place now it here is))
