-- The text of each reply: its fields, in their order.
use Rattle.std.specs.Prelude.{ℕ, true, List, [], ◌∷◌, ◌++◌, codes, Ok, Err}
use Rattle.media_base.specs.declared.reply.Answer.{Answer}
use Rattle.media_base.specs.declared.reply.Answer.TheVariants as answers
use Rattle.media_base.specs.declared.refusal.Refusal.{Refusal}
use Rattle.media_base.specs.declared.refusal.Refusal.TheVariants as refusals
use Rattle.media_base.specs.declared.refusal.Unmet.TheVariants as whys
use Rattle.media_base.specs.Names as names
use Rattle.media_base.specs.Replying.{Reply}
use Rattle.reply_text.specs.Parts.{a_number, a_flag, a_text, tags, files, pairs, Field, object_text}

abbrev pub answer_row : Answer → List Field
answer_row (answers.Imported found) = (codes "file", a_number found.file.0) ∷ (codes "status", a_number (names.import_number found.status)) ∷ []
answer_row (answers.Changed changed) = (codes "changed", a_flag changed) ∷ []
answer_row (answers.Decided decision) = (codes "decision", a_number decision.0) ∷ []
answer_row (answers.Undone decision) = (codes "undone", a_number decision.0) ∷ []
answer_row (answers.Relations relations) =
    (codes "king", a_number relations.king.0) ∷ (codes "members", files relations.members) ∷ (codes "alternates", files relations.alternates) ∷ (codes "not_related", files relations.not_related)
    ∷ []
answer_row (answers.Decision decision undone) =
    (codes "code", a_number (names.code_number decision.code)) ∷ (codes "a", a_number decision.a.0) ∷ (codes "b", a_number decision.b.0) ∷ (codes "undone", a_flag undone) ∷ (codes "rule", files [])
    ∷ []
answer_row (answers.Pairs found) = (codes "pairs", pairs found) ∷ []
answer_row (answers.PairCount count) = (codes "count", a_number count) ∷ []
answer_row (answers.Distance distance) = (codes "distance", a_number distance) ∷ []
answer_row (answers.Searched counts) = (codes "searched", a_number counts.searched) ∷ (codes "left", a_number counts.left) ∷ []
answer_row (answers.Queues queues) = (codes "search", a_number queues.search) ∷ (codes "display", a_number queues.display) ∷ []
answer_row answers.Rebalanced = (codes "done", a_flag true) ∷ []
answer_row (answers.Service service) = (codes "service", a_number service.0) ∷ []
answer_row (answers.Mapped mapped) = (codes "tag", a_number mapped.tag.0) ∷ (codes "changed", a_flag mapped.changed) ∷ []
answer_row (answers.Mappings found) = (codes "current", tags found.current) ∷ (codes "pending", tags found.pending) ∷ (codes "deleted", tags found.deleted) ∷ []
answer_row (answers.Sibling pair) = (codes "bad", a_number pair.first.0) ∷ (codes "good", a_number pair.second.0) ∷ []
answer_row (answers.Parent pair) = (codes "child", a_number pair.first.0) ∷ (codes "parent", a_number pair.second.0) ∷ []
answer_row (answers.Ideal found) = (codes "ideal", a_text found.ideal) ∷ (codes "ancestors", tags found.ancestors) ∷ []

-- what a refusal tells beside its name: the field that it blames, the good tag or the parent that is known, or the service and the tag that would imply too many
abbrev pub details : Refusal → List Field
details (refusals.NotARequest field) = (codes "field", a_text (names.field_text field)) ∷ []
details (refusals.Unmet (whys.PairKnown good)) = (codes "good", a_text good) ∷ []
details (refusals.Unmet (whys.TooManyImplied service tag)) = (codes "service", a_number service.0) ∷ (codes "tag", a_text tag) ∷ []
details refusal = []

abbrev pub reply_row : Reply → List Field
reply_row (Ok answer) = answer_row answer
reply_row (Err refusal) = (codes "error", a_text (names.refusal_row refusal).text) ∷ details refusal

unfoldable pub reply_text : Reply → List ℕ
reply_text reply = object_text (reply_row reply)

-- with its line feed
abbrev pub reply_line : Reply → List ℕ
reply_line reply = reply_text reply ++ 10 ∷ []
