use Rattle.std.proofs.Common.{◌∙◌, ap, sym, subst}
use Rattle.std.specs.List.{list_all}
use Rattle.std.proofs.lemmas.List.Sums.{AllPass-from_list_all}
use Rattle.std.proofs.lemmas.Option.{none-some}
use Rattle.word_ops.specs.Formats.{is_printable}
use Rattle.threadlet_code.specs.declared.code.Code.{Code}
use Rattle.threadlet_code.specs.Breaches.{first_breach}
use Rattle.threadlet_code.specs.Verdict.{IsShort, Refuses}
use Rattle.codegen_stmt.proofs.Counting.{short, implements_at}
use Rattle.codegen_stmt.proofs.Narrow.{narrow_at}
use Rattle.codegen_stmt.proofs.PrintableFormats.{of_program}
use Rattle.codegen_stmt.proofs.Printed.{functions_printed}
use Rattle.codegen_stmt.proofs.Well.{never_bad}
use Rattle.codegen_stmt.proofs.programs.compile.Goals as goal

pub verify-requires : goal.verify-requires
verify-requires c = subst IsShort (sym c.in_ok-code.ensures) (short c.args.program.now c.requires)

-- Each program's code keeps all rules.
pub unreachable-requires : goal.unreachable-requires
unreachable-requires c =
    let refused = subst (Refuses c.in_ok-code.code) c.in-Err-Bad.field-0-is c.in-Err-Bad.ensures in
    let none = ap first_breach c.in_ok-code.ensures ∙ never_bad c.args.program.now in
    none-some _ (sym none ∙ refused.1)

pub returns-in-Ok : goal.returns-in-Ok
returns-in-Ok c =
    let is = c.in-Ok.ensures.0 ∙ c.in_ok-code.ensures in
    let formats = ap (λ (code : Code). code.formats) is ∙ functions_printed c.args.program.now.functions in
    record {
      implements = implements_at c.args.program.now c.in-Ok.verified.code is c.in-Ok.verified.sound;
      narrow = narrow_at c.args.program.now c.in-Ok.verified.code is;
      formats = formats;
      printable = AllPass-from_list_all (list_all is_printable) c.in-Ok.verified.code.formats (ap (list_all (list_all is_printable)) formats ∙ of_program c.args.program.now);
    }
