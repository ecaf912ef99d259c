-- New posters have posted nothing.
use Rattle.std.proofs.Common.{◌≡◌, ℕ, zero, suc, [], All, refl}
use Rattle.std.proofs.lemmas.List.Elements.{All-nil, All-push}
use Rattle.aio_inbox.specs.declared.view.PosterView.{PosterView}
use Rattle.aio_inbox.specs.Views.{new_poster, new_posters}

pub all_new : (n : ℕ) → All (λ (p : PosterView). p.posted ≡ []) (new_posters n)
all_new zero = All-nil (λ (p : PosterView). p.posted ≡ [])
all_new (suc n) = All-push (λ (p : PosterView). p.posted ≡ []) (new_posters n) (new_poster n) (all_new n) refl
