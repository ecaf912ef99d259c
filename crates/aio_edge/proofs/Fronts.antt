-- What a read takes of the front of what was left, where tries before it took nothing.
use Rattle.std.proofs.Common.{◌≡◌, ℕ, List, [], take, Option, Some, None, Result, Ok, sym, ◌∙◌, subst, string_bytes, IfSome}
use Rattle.std.specs.Io.KnownBytes.{Keeps, Consumes, IsAtEnd, ReadConsumes}
use Rattle.aio_wire.specs.declared.source.SourceGot.{SourceGot}
use Rattle.aio_edge.specs.Bytes.{Gives, IsFront, ReadsFront}
use Rattle.aio_edge.specs.Standing.{StandsAt}
use Rattle.aio_edge.specs.declared.reading.Reading.{Reading}

front_of : (first old new : Option (List ℕ)) (bytes : List ℕ) → Keeps first old → Consumes old new bytes → IsFront first bytes
front_of None old new bytes keeps consumes = (None, tt)
front_of (Some xs) None new bytes keeps consumes = absurd keeps
front_of (Some xs) (Some ys) None bytes keeps consumes = absurd consumes
front_of (Some xs) (Some ys) (Some zs) bytes keeps consumes = (Some zs, sym keeps ∙ consumes)

-- where nothing came and nothing is left, nothing was left
end_of : (first old new : Option (List ℕ)) → Keeps first old → Consumes old new [] → IsAtEnd new → IsAtEnd first
end_of None old new keeps consumes end = tt
end_of (Some xs) None new keeps consumes end = absurd keeps
end_of (Some xs) (Some ys) None keeps consumes end = absurd consumes
end_of (Some xs) (Some ys) (Some zs) keeps consumes end = sym keeps ∙ consumes ∙ end

pub reads_front : (E : Type 0) (first old new : Option (List ℕ)) (n : ℕ) (buffer : List ℕ) → Keeps first old
    → ReadConsumes {E = E} old new (Ok n) buffer → ReadsFront {E = E} first (Ok n) buffer
reads_front E first old new n buffer keeps consumes = (
  front_of first old new (take n buffer) keeps consumes.0,
  λ none some. end_of first old new keeps (subst (λ m. Consumes old new (take m buffer)) none consumes.0) (consumes.1 none some),
)

-- what is answered of the file that stood where it is asked is what stood at its front
pub gives_of : (E F : Type 0) (remaining : F → Option (List ℕ)) (old opened : Option (Reading F)) (name : List ℕ) (from : ℕ)
    (read : Result ℕ E) (buffer : List ℕ) (answer : SourceGot)
    → IfSome old (λ one. StandsAt name from (string_bytes one.name) one.at → opened ≡ old)
    → IfSome opened (λ one. ReadsFront (remaining one.file) read buffer)
    → ((left : Option (List ℕ)) → ReadsFront left read buffer → Gives left answer)
    → IfSome old (λ one. StandsAt name from (string_bytes one.name) one.at → Gives (remaining one.file) answer)
gives_of E F remaining None opened name from read buffer answer kept front gives = tt
gives_of E F remaining (Some one) opened name from read buffer answer kept front gives = λ stands.
    gives (remaining one.file)
    (subst (λ (o : Option (Reading F)). IfSome o (λ it. ReadsFront (remaining it.file) read buffer)) (kept stands) front)
