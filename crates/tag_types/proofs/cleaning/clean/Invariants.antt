use Rattle.std.proofs.Common.{◌≡◌, ◌≤◌, length, drop, string_bytes, string_len}
use Rattle.std.specs.Str.{chars, encode_utf8_all}
use Rattle.tag_types.specs.declared.limits.TheConstants.{MAX_TAG_BYTES}
use Rattle.tag_types.specs.Cleaning.{cleaned}
use Rattle.tag_types.specs.Following.{with_following}
use Rattle.tag_types.proofs.cleaning.clean.Given as goal

-- what is cleaned so far, and what the characters that are left put behind it, is the cleaned text
abbrev pub invariant-loop-c : goal.invariant-loop-c
invariant-loop-c l = record {
  few : string_len l.cleaned ≤ MAX_TAG_BYTES;
  follows : with_following (string_bytes l.cleaned) l.is_apart (drop (length l.yielded) (chars l.text)) ≡ encode_utf8_all (cleaned (chars l.text));
}
