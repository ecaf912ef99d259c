-- How a future stands for whoever walks over futures: done, or pending and of some kind.
use Rattle.std.specs.Prelude.{ℕ, List, [], Option, None, Some}
use Rattle.model_value.specs.Value.{Outcome}
use Rattle.model_loop.specs.Parts as plain
use Rattle.model_loop.specs.Parts.{FutureKind}
use Rattle.algorithm_parts.specs.declared.walk.FutureState.{FutureState}
use Rattle.algorithm_parts.specs.declared.walk.FutureState.TheVariants as stands

abbrev pub stands_of_kind : FutureKind → FutureState
stands_of_kind plain.Plain = stands.Plain
stands_of_kind (plain.OfTask task) = stands.OfTask task
stands_of_kind (plain.Many members asked) = stands.Many

abbrev pub stands_of : Option Outcome → FutureKind → FutureState
stands_of (Some outcome) kind = stands.Done
stands_of None kind = stands_of_kind kind

abbrev pub stands_at : Option plain.Future → FutureState
stands_at None = stands.Done
stands_at (Some future) = stands_of future.outcome future.kind

abbrev pub members_of : FutureKind → List ℕ
members_of plain.Plain = []
members_of (plain.OfTask task) = []
members_of (plain.Many members asked) = members

abbrev pub members_at : Option plain.Future → List ℕ
members_at None = []
members_at (Some future) = members_of future.kind
