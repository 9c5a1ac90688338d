use Rattle.std.proofs.Common.{sym}
use Rattle.tag_store.specs.NumberingLaws.{numbered_known}
use Rattle.tag_store.proofs.tags.Tags.intern.Goals as goal

pub returns-in-Some-clause-texts : goal.returns-in-Some-clause-texts
returns-in-Some-clause-texts c = sym (numbered_known _ _ c.in-Some.tag.0 (sym c.in-Some.ensures))
