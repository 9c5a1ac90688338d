-- Laws of what is displayed.
use Rattle.std.proofs.Common.{◌≡◌, ◌+◌, ℕ, suc, List, None, subst, arith}
use Rattle.tag_types.specs.declared.limits.TheConstants.{MAX_SERVICES}
use Rattle.tag_store.specs.Mapped.{Row, state_of}
use Rattle.display_cache.specs.Cache.{Keeps}
use Rattle.display_cache.specs.Displayed.{DisplayView, IsOf, cache_of, records_in}
use Rattle.display_cache.specs.GrowingLaws.{file-more}
use Rattle.display_cache.specs.Recorded.{world_of}

-- a file more, to which nothing is mapped, changes nothing
pub IsOf-new_file : (n m : ℕ) (mappings : List Row) (v : DisplayView) → IsOf n m mappings v → ((s t : ℕ) → state_of mappings s t m ≡ None) → IsOf n (m + 1) mappings v
IsOf-new_file n m mappings v is unmapped = record {
  tags = is.tags;
  distinct = is.distinct;
  there = is.there;
  kept = subst (λ k. Keeps MAX_SERVICES (world_of (records_in n k mappings v)) (cache_of v)) (omega arith)
      (file-more MAX_SERVICES (world_of (records_in n m mappings v)) (cache_of v) is.kept unmapped);
}
