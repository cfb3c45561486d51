-- The text stands at the start of the bytes. Assumes nothing.
use Rattle.std.proofs.Common.{sym, subst, List, ℕ, arith}
use Rattle.runs.proofs.Texts.{puts_first}
use Rattle.report.specs.Report.{Report}
use Rattle.report.proofs.report.Goals as goal

pub returns-else-file-gt8192 : goal.returns-else-file-gt8192
returns-else-file-gt8192 c = let all = c.put_report-size.ensures in
    record {
      within = omega (arith, all.puts.end, all.few);
      is = subst (λ (t : List ℕ). Report c.args.file.now t) (sym (puts_first all.puts)) all.is;
    }
