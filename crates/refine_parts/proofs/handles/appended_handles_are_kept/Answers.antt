use Rattle.refine_parts.proofs.Appending.{kept_soon, kept_soon_all}
use Rattle.refine_parts.proofs.handles.appended_handles_are_kept.Goals as goal

pub returns-clause-soon : goal.returns-clause-soon
returns-clause-soon c = λ t v p action k. kept_soon t v p k action

pub returns-clause-soon_all : goal.returns-clause-soon_all
returns-clause-soon_all c = kept_soon_all
