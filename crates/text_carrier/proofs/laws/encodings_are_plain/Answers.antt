use Rattle.std.proofs.Common.{inl, inr, ℕ, arith}
use Rattle.std.specs.Prelude.{◌≢◌}
use Rattle.std.proofs.lemmas.List.Elements.{All-contains}
use Rattle.base64.specs.Engines.{standard}
use Rattle.base64.specs.GeneralPurpose.{encode_of}
use Rattle.text_carrier.proofs.Standard.{IsPlain, consistent, encoding_plain, strict}
use Rattle.text_carrier.proofs.laws.encodings_are_plain.Goals as goal

plain : (byte : ℕ) → IsPlain byte → (byte ≢ 32) × (byte ≢ 10) × (byte ≢ 13)
plain byte (inl zero) = (λ e. omega arith, λ e. omega arith, λ e. omega arith)
plain byte (inr more) = (λ e. omega arith, λ e. omega arith, λ e. omega arith)

pub returns-clause-consistent : goal.returns-clause-consistent
returns-clause-consistent c = consistent

pub returns-clause-strict : goal.returns-clause-strict
returns-clause-strict c = strict

pub returns-clause-plain : goal.returns-clause-plain
returns-clause-plain c = λ bytes byte i. plain byte (All-contains IsPlain (encode_of standard bytes) byte (encoding_plain bytes) i)
