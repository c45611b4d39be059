use Rattle.rho_printer.proofs.Printing.{printed}
use Rattle.rho_printer.proofs.print.print_term.Goals as goal

pub returns : goal.returns
returns c = printed c.args.t.now c.new-page.result c.put_term.new.page _ c.new-page.ensures c.put_term.ensures c.text.ensures
