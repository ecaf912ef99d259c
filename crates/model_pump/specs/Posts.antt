-- The posts of pumps, with bytes as lists.
use Rattle.std.specs.Prelude.{ℕ, List, ◌==◌}
use Rattle.std.specs.List.{filter}
use Rattle.model_pump.specs.declared.post.PostKind as any_kind
use Rattle.model_pump.specs.declared.post.Post as any_post

abbrev pub PostKind : Type 0
PostKind = any_kind.PostKind (List ℕ)

abbrev pub Post : Type 0
Post = any_post.Post (List ℕ)

-- the posts of a seat, in order
abbrev pub posts_of : ℕ → List Post → List Post
posts_of seat posts = filter (λ (came : Post). came.seat == seat) posts
