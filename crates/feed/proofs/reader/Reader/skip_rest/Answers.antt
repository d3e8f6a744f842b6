use Rattle.std.proofs.Common.{◌<◌, length, Ok, Err, sym, ap, ◌∙◌, subst}
use Rattle.std.proofs.lemmas.Result.{err_from_is_err_and}
use Rattle.feed.specs.Reads.{record_placed}
use Rattle.feed.specs.Readers.{unread}
use Rattle.feed.specs.Runs.{run}
use Rattle.feed.proofs.Runs.{told-some, told_none, told_refusal}
use Rattle.feed.proofs.reader.Reader.skip_rest.Goals as goal

pub loop-smaller : goal.loop-smaller
loop-smaller g c =
    let bs = unread c.loop.self in
    let a = ap (λ o. record_placed g.A.AddressKind.num (Ok o)) (sym c.in-Some.is) ∙ c.in_ok-next.ensures.answer in
    let on = told-some g.A.FeedKind.width c.loop.self.place bs _ a in
    subst (λ xs. length xs < length bs) (sym c.next.ensures.after) on.shorter

pub loop-preserved : goal.loop-preserved
loop-preserved g c =
    let w = g.A.FeedKind.width in
    let a = ap (λ o. record_placed g.A.AddressKind.num (Ok o)) (sym c.in-Some.is) ∙ c.in_ok-next.ensures.answer in
    let on = told-some w c.loop.self.place (unread c.loop.self) _ a in
    let e = c.next.ensures.after in
    (c.next.ensures.same ∙ c.loop.invariant.0, ap (λ xs. (run w xs).end) e ∙ on.end ∙ c.loop.invariant.1, ap (λ xs. (run w xs).left) e ∙ on.rest ∙ c.loop.invariant.2)

pub returns : goal.returns
returns g c =
    let a = ap (λ o. record_placed g.A.AddressKind.num (Ok o)) (sym c.in_default.is) ∙ c.in_ok-next.ensures.answer in
    let off = told_none g.A.FeedKind.width c.loop.self.place (unread c.loop.self) a in
    record {
      answer = off.end ∙ c.loop.invariant.1;
      after = c.next.ensures.after ∙ off.rest ∙ c.loop.invariant.2;
      same = c.next.ensures.same ∙ c.loop.invariant.0;
    }

pub returns-in_err-next : goal.returns-in_err-next
returns-in_err-next g c =
    let p = err_from_is_err_and c.from_residual.result c.from_residual.ensures.1 in
    let off = told_refusal g.A.FeedKind.width c.loop.self.place (unread c.loop.self) _ c.in_err-next.ensures.answer in
    record {
      answer = p.1 ∙ ap Err p.2 ∙ off.end ∙ c.loop.invariant.1;
      after = c.next.ensures.after ∙ off.rest ∙ c.loop.invariant.2;
      same = c.next.ensures.same ∙ c.loop.invariant.0;
    }
