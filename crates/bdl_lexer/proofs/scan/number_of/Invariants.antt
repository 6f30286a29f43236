use Rattle.std.proofs.Common.{◌≡◌, ◌≤◌, take}
use Rattle.bdl_lexer.specs.declared.TheConstants.{NUMBER_MAX}
use Rattle.bdl_lexer.specs.Scan.{decimal_value}
use Rattle.bdl_lexer.proofs.scan.number_of.Given as goal

abbrev pub invariant-loop-digit : goal.invariant-loop-digit
invariant-loop-digit l = record {
  value : l.value ≡ decimal_value (take l.digit-index l.digits);
  small : l.value ≤ NUMBER_MAX;
}
