use Rattle.std.proofs.Common.{◌≡◌, ◌-◌, ◌++◌, List, ℕ, min, length, ap, sym, ◌∙◌, arith}
use Rattle.media_tool.specs.Kept.{kept_of}
use Rattle.media_tool.proofs.Kept.{kept_room}
use Rattle.media_tool.proofs.kept_line.KeptLine.keep.Goals as goal

pub returns : goal.returns
returns c =
    let old = c.self.inside.bytes in
    let bytes = c.args.bytes.now in
    let count : c.min.result ≡ min (65537 - length old.items) (length bytes) = omega (arith, c.min.ensures, c.len-room.ensures, old.ok.0) in
    c.in-Ok.ensures.items ∙ sym (kept_room old.items bytes c.min.result c.self.invariant.0 count) ∙ ap (λ (line : List ℕ). kept_of (line ++ bytes)) c.self.view_is
