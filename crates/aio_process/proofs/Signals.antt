-- The number of a signal, negated.
use Rattle.std.proofs.Common.{◌≡◌, ℕ, zero, suc, ◌%◌, ◌<◌, min, Bool, true, false, Option, Some, None, refl, ap, ◌∙◌, subst, arith}
use Rattle.std.specs.Prelude.{ℤ, pos, negsuc, neg_ℤ, ◌-ℤ◌, ◌||◌, ◌==◌, if◌then◌else◌, unwrap_or}
use Rattle.std.specs.Process.{exit_signal, status_bits}
use Rattle.std.specs.declared.process.status.ExitStatus.{ExitStatus}
use Rattle.std.specs.Int.{saturate_signed}
use lib.IntN.{+ℤ_idl}
use mir.Syntax.{w32}

kept : (k : ℕ) → k < 128 → saturate_signed w32 (neg_ℤ (pos k)) ≡ neg_ℤ (pos k)
kept zero low = refl
kept (suc k) low =
    let least : min k 2147483647 ≡ k = omega (arith, low) in
    ap negsuc least

negated_at : (none : Bool) (k : ℕ) (signal : ℤ) → k < 128 → (if none then None else Some (pos k)) ≡ Some signal
    → saturate_signed w32 (pos 0 -ℤ signal) ≡ neg_ℤ signal
negated_at true k signal low is = absurd (cc)
negated_at false k signal low is =
    let same : pos k ≡ signal = ap (λ (o : Option ℤ). unwrap_or o (pos 0)) is in
    subst (λ (z : ℤ). saturate_signed w32 (pos 0 -ℤ z) ≡ neg_ℤ z) same
    (ap (saturate_signed w32) (+ℤ_idl (neg_ℤ (pos k))) ∙ kept k low)

-- it fits
pub negated : (status : ExitStatus) (signal : ℤ) → exit_signal status ≡ Some signal
    → saturate_signed w32 (pos 0 -ℤ signal) ≡ neg_ℤ signal
negated status signal is =
    let bits = status_bits status % 128 in
    negated_at (bits == 0 || bits == 127) bits signal (omega arith) is
