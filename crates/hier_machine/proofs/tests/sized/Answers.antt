use Rattle.std.proofs.Common.{subst, sym}
use Rattle.hier_types.specs.Settings.{AreWithinRules}
use Rattle.hier_types.proofs.SettingLemmas.{default_rules}
use Rattle.hier_machine.proofs.tests.sized.Goals as goal

pub returns-clause-rules : goal.returns-clause-rules
returns-clause-rules c =
    let rules : AreWithinRules c.default.result = subst AreWithinRules (sym c.default.ensures) default_rules in
    record {
      pages = (c.requires.some_pages, c.requires.most_pages);
      frames = (c.requires.some_frames, c.requires.most_frames);
      l1_sets = rules.l1_sets;
      l1_ways = rules.l1_ways;
      l2_sets = rules.l2_sets;
      l2_ways = rules.l2_ways;
      meta = rules.meta;
      budget = c.requires.budget;
    }
