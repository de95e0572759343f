use Rattle.std.proofs.Common.{◌≡◌, ◌<◌, ◌++◌, true, length, map, take, drop, arith, ap, sym, ◌∙◌, zero-add}
use Rattle.std.proofs.lemmas.Grind.{common_steps}
use Rattle.row_locks.specs.Rows.{may_hold}
use Rattle.row_locks.specs.Serving.{granted_to, shared_run}
use Rattle.row_locks.proofs.ServingLemmas.{served-shared, served-exclusive}
use Rattle.row_locks.proofs.serving.serve.Goals as goal

-- the shared requests that stand first were granted
pub returns-in-Shared : goal.returns-in-Shared
returns-in-Shared c =
    let hs = c.args.holders.now.items in
    let ws = c.args.queue.now.items in
    let w = c.index-first.result.now in
    let some : 0 < length ws = grind (arith, common_steps) in
    let may : may_hold w hs ≡ true = grind (arith, common_steps) in
    let all = served-shared hs ws w some c.index-first.ensures c.in-Shared.is may c.requires.once c.requires.in_need in
    record {
      holders = c.share.ensures.holders ∙ ap (λ n. hs ++ map granted_to (take n ws)) c.share.ensures.granted
          ∙ sym (ap (λ s. s.lock.holders) all);
      queue = c.share.ensures.queue ∙ ap (λ n. drop n ws) c.share.ensures.granted ∙ sym (ap (λ s. s.lock.queue) all);
      granted = c.share.ensures.granted ∙ sym (zero-add (shared_run ws)) ∙ sym (ap (λ s. s.granted) all);
      room = c.share.ensures.room;
    }

-- the first request alone was granted
pub returns-in-Exclusive : goal.returns-in-Exclusive
returns-in-Exclusive c =
    let hs = c.args.holders.now.items in
    let ws = c.args.queue.now.items in
    let w = c.index-first.result.now in
    let some : 0 < length ws = grind (arith, common_steps) in
    let may : may_hold w hs ≡ true = grind (arith, common_steps) in
    let one = served-exclusive hs ws w some c.index-first.ensures c.in-Exclusive.is may c.requires.once in
    record {
      holders = c.hold.ensures.holders ∙ sym (ap (λ s. s.lock.holders) one);
      queue = c.remove.ensures.items ∙ sym (ap (λ s. s.lock.queue) one);
      granted = sym (ap (λ s. s.granted) one);
      room = grind (arith, common_steps);
    }
