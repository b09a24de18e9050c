-- The default settings are within their rules.
use Rattle.std.proofs.Common.{lit≤, refl}
use Rattle.hier_types.specs.Settings.{AreWithinRules, default_settings}

pub default_rules : AreWithinRules default_settings
default_rules = record {
  pages = (lit≤ tt, lit≤ tt);
  frames = (lit≤ tt, lit≤ tt);
  l1_sets = (6, refl, lit≤ tt);
  l1_ways = (lit≤ tt, lit≤ tt);
  l2_sets = (9, refl, lit≤ tt);
  l2_ways = (lit≤ tt, lit≤ tt);
  meta = (lit≤ tt, lit≤ tt);
  budget = lit≤ tt;
}
