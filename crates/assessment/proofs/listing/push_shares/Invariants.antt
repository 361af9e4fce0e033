use Rattle.std.proofs.Common.{◌≡◌, map}
use Rattle.std.specs.List.{flat_map}
use Rattle.truth.specs.Dockets.{backed}
use Rattle.holdings.specs.Views.{row_of}
use Rattle.text.specs.Texts.{text_of, followed_by}
use Rattle.assessment.specs.Listings.{share_line}
use Rattle.assessment.proofs.listing.push_shares.Given as goal

-- the shares and rows that are left
abbrev pub invariant-loop-share : goal.invariant-loop-share
invariant-loop-share l =
    followed_by (text_of l.text) (flat_map share_line (backed l.share-iterator.a.rest.now (map row_of l.share-iterator.b.rest.now)))
    ≡ followed_by (text_of l.initial.text) (flat_map share_line (backed l.shares (map row_of l.rows)))
