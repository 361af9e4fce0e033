use Rattle.std.proofs.Common.{sym, subst}
use Rattle.file_check.specs.Order.{FirstFault}
use Rattle.file_check.proofs.Accepted as accepted
use Rattle.file_check.proofs.Ordered.{first_fault}
use Rattle.file_check.proofs.check.check.Goals as goal

pub returns : goal.returns
returns c = record {
  answer = c.first_fault.ensures;
  order = subst (FirstFault c.args.bytes.now) (sym c.first_fault.ensures) (first_fault c.args.bytes.now);
  layout = accepted.layout;
}
