use Rattle.std.proofs.Common.{length, rules, arith}
use Rattle.std.proofs.lemmas.Iterator.{YieldsList-from_range, YieldsList-from_slice, YieldsList-from_zip}
use Rattle.std.proofs.lemmas.Iterator.Consumers.{YieldsList-at}
use Rattle.std.specs.Option.{option_map}
use borrow.Author.Tests.{tests}
use Rattle.tables.specs.Plans.{listed_view}
use Rattle.tables.proofs.Listings.{add, comes_after, found_in, is_in, item_of}
use Rattle.tables.proofs.Roads.{filter_road, fold_road, map_road}
use Rattle.tables.proofs.listing.least.Goals as goal

pub returns : goal.returns
returns c =
    let k = c.args.kind in
    let d = c.args.dir in
    let a = c.args.after.now in
    let es = c.args.entries.now in
    let first = option_map listed_view c.args.best in
    let pairs = YieldsList-from_zip (YieldsList-from_range 0 32 (length es) c.zip.ensures.first (omega arith)) (YieldsList-from_slice es cc) in
    let ours = filter_road (is_in d) c.filter.ensures.runs (YieldsList-at c.filter.ensures.source pairs) c.filter.ensures.closure (λ x b q k. search (rules, tests)) in
    let items = map_road listed_view (item_of k) c.map.ensures.runs (YieldsList-at c.map.ensures.source ours) c.map.ensures.closure (λ x r q k. search (rules, tests)) in
    let later = filter_road (comes_after a) c.filter-2.ensures.runs (YieldsList-at c.filter-2.ensures.source items) c.filter-2.ensures.closure (λ x b q k. search (rules, tests)) in
    found_in k d a es first (option_map listed_view c.fold.result) (fold_road (option_map listed_view) add c.args.best c.fold.result later c.fold.ensures.ran (λ o x b q k. search (rules, tests)))
