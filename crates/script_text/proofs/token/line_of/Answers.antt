use Rattle.script_text.proofs.token.line_of.Goals as goal

pub returns-clause-text : goal.returns-clause-text
returns-clause-text c =
    rw (← c.body.view_is, ← c.in_ok-code.ensures, ← c.get-serial.ensures, ← c.get-block.ensures) c.in_ok-text.ensures.ok
