use Rattle.std.proofs.Common.{◌+◌, ◌++◌, ◌∙◌, [], None, refl, sym, subst, ap, map, option_map, append-nil, append_assoc}
use Rattle.debuggee.specs.Plain.{plain_breakpoint, plain_halt, plain_output}
use Rattle.debuggee.specs.Marks.{AreMarked}
use Rattle.debuggee.specs.Runs.{Added, Advances, Stays, Then}
use Rattle.debuggee.proofs.Marking.{marked_still}
use Rattle.debuggee.proofs.running.pass_or_halt.Goals as goal

pub loop-init : goal.loop-init
loop-init g c =
    record {
      many = 0;
      counted = refl;
      told = [];
      passes = Stays;
      added = sym (append-nil (map plain_output c.args.told.now.items));
      marked = c.requires;
    }

pub loop-preserved : goal.loop-preserved
loop-preserved g c =
    let before = map plain_output c.args.told.now.items in
    let between = map plain_output c.loop.told.items in
    let after = map plain_output c.advance.new.told.items in
    let mid = map plain_breakpoint c.loop.breakpoints.items in
    let new = map plain_breakpoint c.advance.new.breakpoints.items in
    let told = c.loop.invariant.told in
    let step : Added (Advances g.D.Debuggee.takes g.D.Debuggee.sees c.args.mode c.loop.debuggee mid None
    c.advance.new.debuggee new) between after
    = subst (λ h. Added (Advances g.D.Debuggee.takes g.D.Debuggee.sees c.args.mode c.loop.debuggee mid
    (option_map plain_halt h) c.advance.new.debuggee new) between after) c.in-None.is c.in_ok-halt.ensures in
    record {
      many = c.loop.invariant.many + 1;
      counted = ap (λ n. n + 1) c.loop.invariant.counted;
      told = told ++ step.0;
      passes = Then c.loop.invariant.many c.loop.debuggee c.advance.new.debuggee mid new told step.0
          c.loop.invariant.passes step.1;
      added = step.2 ∙ ap (λ l. l ++ step.0) c.loop.invariant.added ∙ append_assoc before told step.0;
      marked = subst (AreMarked c.args.marks.now.first c.args.marks.now.next.items) (sym step.1.3)
          (marked_still g.D.Debuggee.sees c.advance.new.debuggee c.args.marks.now.first c.args.marks.now.next.items mid
          c.loop.invariant.marked);
    }
