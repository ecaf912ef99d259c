-- One post after another of a pump in memory.
use Rattle.std.proofs.Common.{◌≡◌, ℕ, ◌+◌, List, [], ◌∷◌, ◌++◌, refl, sym, ap, ◌∙◌, append_assoc, arith}
use Rattle.model_pump.specs.Posts.{PostKind}
use Rattle.aio_inbox.specs.declared.view.PosterView.{PosterView}
use Rattle.aio_inbox.specs.Views.{with_posted}
use Rattle.aio_pump.specs.declared.report.Ending.{Ending}
use Rattle.aio_pump.specs.declared.report.Ending.TheVariants as ending
use Rattle.aio_pump.specs.Moments.{told}
use Rattle.aio_pump.proofs.Posting.{all_posted-append, told_add}
use Rattle.aio_hub.specs.Plays.{PostsFront, bytes_moved, all_moved, ending_by, ending_after}

all_moved-append : (kinds : List PostKind) (kind : PostKind) → all_moved (kinds ++ kind ∷ []) ≡ all_moved kinds + bytes_moved kind
all_moved-append [] kind = omega arith
all_moved-append (first ∷ kinds) kind = let later = all_moved-append kinds kind in omega (arith, later)

ending_after-append : (so : Ending) (kinds : List PostKind) (kind : PostKind)
    → ending_after so (kinds ++ kind ∷ []) ≡ ending_by kind
ending_after-append so [] kind = refl
ending_after-append so (first ∷ kinds) kind = ending_after-append (ending_by first) kinds kind

-- one post more, of so many bytes
pub posts_one : (kinds left : List PostKind) (kind : PostKind) (before now after : PosterView) (moved size all : ℕ)
    (by so : Ending) → PostsFront kinds (kind ∷ left) before now moved by → after ≡ with_posted now kind
    → size ≡ bytes_moved kind → all ≡ told (moved + size) → so ≡ ending_by kind → PostsFront kinds left before after all so
posts_one kinds left kind before now after moved size all by so had is sized added ends =
    record {
      posted = had.posted ++ kind ∷ [];
      front = had.front ∙ sym (append_assoc had.posted (kind ∷ []) left);
      poster =
          is ∙ ap (λ (v : PosterView). with_posted v kind) had.poster ∙ sym (all_posted-append before had.posted kind);
      moves =
          added ∙ ap (λ x. told (moved + x)) sized ∙ ap (λ x. told (x + bytes_moved kind)) had.moves
          ∙ told_add (all_moved had.posted) (bytes_moved kind) ∙ ap told (sym (all_moved-append had.posted kind));
      ends = ends ∙ sym (ending_after-append ending.Stopped had.posted kind);
    }
