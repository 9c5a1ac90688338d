use Rattle.std.proofs.Common.{ℕ, List, ◌++◌, codes, sym, subst}
use Rattle.reply_text.specs.Fields.{field_of}
use Rattle.reply_text.specs.Parts.{field_text, object_text}
use Rattle.reply_text.proofs.Joining.{joined_text-map}
use Rattle.reply_text.proofs.part.put_object.Goals as goal

pub returns : goal.returns
unfolding object_text
returns g c =
    let same = joined_text-map (codes ",") field_of field_text c.args.fields.now in
    subst (λ (text : List ℕ). g.O.Out.Puts c.args.out.now c.args.sink.now c.put_enclosed.new.out c.put_enclosed.new.sink (codes "{" ++ (text ++ codes "}")) c.put_enclosed.result) (sym same) c.put_enclosed.ensures
