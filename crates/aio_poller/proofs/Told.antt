-- What is told of endpoints is read as it is meant.
use Rattle.std.proofs.Common.{◌≡◌, ℕ, ◌+◌, ◌-◌, ◌*◌, ◌/◌, ◌%◌, ◌^◌, ◌<◌, ◌≤◌, Bool, true, cond, not, List, [], ◌∷◌, ◌++◌}
use Rattle.std.proofs.Common.{Some, length, refl, ap, ◌∙◌, append_assoc, length-append, arith}
use Rattle.std.specs.Prelude.{fold, nat_le, nat_lt, ◌==◌}
use Rattle.std.specs.List.{list_all, prefix_len}
use Rattle.std.specs.Option.{option_and_then}
use Rattle.std.specs.Fmt.{decimal}
use Rattle.std.proofs.Math.Seq.{take-append_seam, drop-append-add}
use Rattle.std.proofs.lemmas.Fmt.{decimal_by_steps}
use Rattle.std.proofs.lemmas.Bool.{and_parts, and_from}
use Rattle.std.proofs.lemmas.Bool.Decides.{nat_tests}
use Rattle.model_value.specs.Number.{is_digit, digits_value, number_of, most}
use Rattle.aio_poller.specs.Datagrams.{datagram_text, within, endpoint_in, port_in, cut, datagram_in}

-- ---- digits
abbrev IsDecimalOf : ℕ → List ℕ → Type 0
IsDecimalOf n digits = (nat_lt 0 (length digits) ≡ true) × (list_all is_digit digits ≡ true) × (digits_value digits ≡ n)

fold-snoc : (f : ℕ → ℕ → ℕ) (digits : List ℕ) (start digit : ℕ) → fold f start (digits ++ digit ∷ []) ≡ f (fold f start digits) digit
fold-snoc f [] start digit = refl
fold-snoc f (first ∷ digits) start digit = fold-snoc f digits (f start first) digit

all-snoc : (test : ℕ → Bool) (digits : List ℕ) (digit : ℕ) → list_all test digits ≡ true → test digit ≡ true
    → list_all test (digits ++ digit ∷ []) ≡ true
all-snoc test [] digit a d = and_from (test digit) true d refl
all-snoc test (first ∷ digits) digit a d =
    let p = and_parts (test first) (list_all test digits) a in
    and_from (test first) (list_all test (digits ++ digit ∷ [])) p.0 (all-snoc test digits digit p.1 d)

some-snoc : (digits : List ℕ) (digit : ℕ) → nat_lt 0 (length (digits ++ digit ∷ [])) ≡ true
some-snoc [] digit = refl
some-snoc (first ∷ digits) digit = grind (arith, nat_tests)

digit-below : (n : ℕ) → n < 10 → is_digit (48 + n) ≡ true
digit-below n h = grind (arith, nat_tests)

one-digit : (n : ℕ) → n < 10 → IsDecimalOf n ((48 + n) ∷ [])
one-digit n h =
    let value : 10 * 0 + ((48 + n) - 48) ≡ n = omega arith in
    (refl, and_from (is_digit (48 + n)) true (digit-below n h) refl, value)

more-digits : (n : ℕ) (digits : List ℕ) → 10 ≤ n → IsDecimalOf (n / 10) digits → IsDecimalOf n (digits ++ (48 + n % 10) ∷ [])
more-digits n digits h d =
    let last : 10 * digits_value digits + ((48 + n % 10) - 48) ≡ n = omega (arith, d.2) in (
      some-snoc digits (48 + n % 10),
      all-snoc is_digit digits (48 + n % 10) d.1 (digit-below (n % 10) (omega arith)),
      fold-snoc (λ number digit. 10 * number + (digit - 48)) digits 0 (48 + n % 10) ∙ last,
    )

decimal-of : (n : ℕ) → n < 2 ^ 64 → IsDecimalOf n (decimal n)
decimal-of n h = decimal_by_steps IsDecimalOf one-digit more-digits n h

number-read : (n : ℕ) → n < 2 ^ 63 → number_of (decimal n) ≡ Some n
number-read n h =
    let d = decimal-of n (omega (arith, h)) in
    let small : nat_le n most ≡ true = grind (arith, nat_tests) in
    rw (d.0, d.1, d.2, small) refl

-- ---- numbers of endpoints and ports
within-it : (least greatest n : ℕ) → least ≤ n → n ≤ greatest → within least greatest n ≡ Some n
within-it least greatest n low high =
    let l : nat_le least n ≡ true = grind (arith, nat_tests) in
    let h : nat_le n greatest ≡ true = grind (arith, nat_tests) in
    rw (l, h) refl

pub endpoint-read : (n : ℕ) → n < 2 ^ 32 → endpoint_in (decimal n) ≡ Some n
endpoint-read n h =
    ap (option_and_then (within 0 (2 ^ 32 - 1))) (number-read n (omega (arith, h))) ∙ within-it 0 (2 ^ 32 - 1) n (omega arith) (omega (arith, h))

pub port-read : (port : ℕ) → 1 ≤ port → port < 2 ^ 16 → port_in (decimal port) ≡ Some port
port-read port low h =
    ap (option_and_then (within 1 65535)) (number-read port (omega (arith, h))) ∙ within-it 1 65535 port low (omega (arith, h))

-- ---- texts
abbrev is_space : ℕ → Bool
is_space byte = byte == 32

no-space : (byte : ℕ) → is_digit byte ≡ true → not (is_space byte) ≡ true
no-space byte h = grind (arith, nat_tests)

no-spaces : (digits : List ℕ) → list_all is_digit digits ≡ true → (rest : List ℕ)
    → prefix_len (λ byte. not (is_space byte)) (digits ++ 32 ∷ rest) ≡ length digits
no-spaces [] h rest = refl
no-spaces (digit ∷ digits) h rest =
    let p = and_parts (is_digit digit) (list_all is_digit digits) h in
    ap (λ b. cond b (1 + prefix_len (λ byte. not (is_space byte)) (digits ++ 32 ∷ rest)) 0) (no-space digit p.0)
    ∙ (omega (arith, no-spaces digits p.1 rest))

cut-digits : (digits rest : List ℕ) → list_all is_digit digits ≡ true → cut (digits ++ 32 ∷ rest) ≡ Some (digits, rest)
cut-digits digits rest h =
    let at = no-spaces digits h rest in
    let here : nat_lt (length digits) (length (digits ++ 32 ∷ rest)) ≡ true = grind (arith, nat_tests, length-append digits (32 ∷ rest)) in
    rw (at, here, take-append_seam digits (32 ∷ rest), drop-append-add digits (32 ∷ rest) 1) refl

pub datagram-read : (number port : ℕ) (bytes : List ℕ) → number < 2 ^ 32 → 1 ≤ port → port < 2 ^ 16
    → datagram_in (datagram_text number port bytes) ≡ Some (record { number = number; port = port; bytes = bytes })
datagram-read number port bytes n low p =
    let front = decimal-of number (omega (arith, n)) in
    let rest = decimal-of port (omega (arith, p)) in
    let first = cut-digits (decimal number) (decimal port ++ 32 ∷ bytes) front.1 in
    let second = cut-digits (decimal port) bytes rest.1 in
    let all = append_assoc (decimal number) (32 ∷ decimal port) (32 ∷ bytes) in
    rw (all, first, second, endpoint-read number n, port-read port low p) refl
