use Rattle.std.proofs.Common.{Result, Some, None, inr, sym, subst, ◌∙◌}
use Rattle.std.proofs.lemmas.Bool.{false≢true}
use Rattle.serde_json.specs.View.{view}
use Rattle.media_base.specs.declared.command.Command.{Command}
use Rattle.media_base.specs.declared.refusal.Refusal.{Refusal}
use Rattle.command_text.specs.Forms.{Gives}
use Rattle.command_text.proofs.Lines.{line_value-utf8, line_value-none, text_command-value}
use Rattle.command_text.proofs.request.read_text.Goals as goal

pub returns-in-Ok : goal.returns-in-Ok
returns-in-Ok c =
    let line = c.args.bytes.now in
    let reads = c.in-Ok.ensures.ok in
    subst (λ (reading : Result Command Refusal). Gives c.command_of.result reading)
    (sym (text_command-value line (Some (view c.in-Ok.value)) (line_value-utf8 line reads.0 ∙ reads.1))) c.command_of.ensures

pub returns-in-Err-2 : goal.returns-in-Err-2
returns-in-Err-2 c =
    let line = c.args.bytes.now in
    inr (text_command-value line None (line_value-none line (c.in-Err.ensures.err (λ memory. false≢true (sym c.if-is_memory.false ∙ c.is_memory.ensures.1 memory)))))
