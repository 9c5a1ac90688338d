use Rattle.std.proofs.Common.{◌≡◌, ◌≤◌, ◌⊎◌, ◌↔◌, ℕ, ◌+◌, true, take, Contains}
use Rattle.file_records.specs.Words.{has_number}
use Rattle.file_records.proofs.files.add_holders.Given as goal

abbrev pub invariant-loop-hash : goal.invariant-loop-hash
invariant-loop-hash l = record {
  holders : (h k : ℕ) → Contains l.holders.rows (h, k)
      ↔ (Contains l.initial.holders.rows (h, k) ⊎ ((k ≡ l.file) × (has_number l.words.keys h (take l.hash-index l.hashes) ≡ true)));
  spare : l.initial.holders.spare ≤ l.holders.spare + l.hash-index;
}
