use Rattle.dap_frame.proofs.Common.{arith, sym, vec_len, ◌-◌, ◌∙◌, ◌≡◌}
use Rattle.dap_frame.proofs.Keeping.{kept_whole, kept_rest}
use Rattle.dap_frame.proofs.decoder.compact.Goals as goal
use Rattle.dap_frame.proofs.decoder.compact.Goals.{then-passed-left-via-then-passed-left, then-passed-left-via-else-passed-left+then-passed-left-2}

pub returns-then-passed-left-clause-removed : goal.returns-then-passed-left-clause-removed
returns-then-passed-left-clause-removed c = λ none.
    let len = c.len.ensures in
    elim c.then-passed-left.branch [
      | then-passed-left-via-then-passed-left w ↦
          let few = w.if-passed-left.true in
          kept_whole c.args.passed (vec_len c.args.bytes.now) (omega (arith, len, few))
      | then-passed-left-via-else-passed-left+then-passed-left-2 w ↦
          let few = w.if-passed-left-2.true in
          kept_whole c.args.passed (vec_len c.args.bytes.now) (omega (arith, len, few, none))
    ]

pub returns-clause-kept : goal.returns-clause-kept
returns-clause-kept c =
    let many = c.if-passed-left.false in
    let len = c.len.ensures in
    let same = c.copy_within.ensures.len in
    let cut = c.truncate.ensures.len in
    let left : vec_len c.truncate.new.self ≡ vec_len c.args.bytes.now - c.args.passed = omega (arith, len, same, cut) in
    kept_whole 0 (vec_len c.truncate.new.self) (omega arith) ∙ left
    ∙ sym (kept_rest c.args.passed (vec_len c.args.bytes.now) (omega (arith, len, many)))

pub returns-clause-removed : goal.returns-clause-removed
returns-clause-removed c = λ none. kept_whole 0 (vec_len c.truncate.new.self) (omega arith)
