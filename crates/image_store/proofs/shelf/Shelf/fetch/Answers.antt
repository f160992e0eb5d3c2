use Rattle.image_store.proofs.Common.{◌≡◌, ◌≢◌, sym, ◌∙◌, ap, subst, ◌≤◌, rules, sha256, IsGot}
use Rattle.std.specs.Vec.{vec_len}
use Rattle.image_store.specs.declared.shelf.Kept.{Kept}
use Rattle.image_store.proofs.LevelImages.{got_is, remains_as}
use Rattle.image_store.proofs.shelf.Shelf.fetch.Goals as goal

pub returns-then-ne : goal.returns-then-ne
returns-then-ne g c =
    let gets = c.in-Ok.ensures.gets in
    let differ : c.digest-got.result ≢ c.kept-kept.result.digest = search rules in
    let read : c.digest-got.result ≡ sha256 c.get.new.into.items = c.digest-got.ensures ∙ ap sha256 c.as_slice.ensures.value in
    record {
      ok = tt;
      digest = tt;
      short = tt;
      damaged = λ put got is kept at.
          let same : c.kept-kept.result ≡ kept = cc (c.kept-kept.ensures.value, at) in
          (subst (λ (k : Kept). IsGot k (g.K.Storage.told c.args.keeper.now) c.get.new.into.items) same gets.ok, cc (is, same), cc (is, read), λ e. differ (cc (is, e)));
      stands = λ bytes stands. tt;
      sound = λ bytes stands put got is.
          let found = got_is c.args.self.now.pairs bytes (g.K.Storage.told c.args.keeper.now) c.args.n c.kept-kept.result c.get.new.into.items c.kept-kept.ensures.value stands gets.ok in
          differ (read ∙ sym found.1);
      same = gets.same;
      reserved = gets.reserved;
      counted = gets.counted;
      rest = remains_as g.K.Storage c.args.keeper.now c.get.new.self (λ e. absurd cc) (λ e. absurd cc) gets.rest;
      roomy = λ room kept has at fits is. absurd cc;
    }

pub returns : goal.returns
returns g c =
    let gets = c.in-Ok.ensures.gets in
    let alike : c.digest-got.result ≡ c.kept-kept.result.digest = search rules in
    let read : c.digest-got.result ≡ sha256 c.get.new.into.items = c.digest-got.ensures ∙ ap sha256 c.as_slice.ensures.value in
    record {
      ok = λ kept at.
          let same : c.kept-kept.result ≡ kept = cc (c.kept-kept.ensures.value, at) in
          subst (λ (k : Kept). IsGot k (g.K.Storage.told c.args.keeper.now) c.get.new.into.items × (vec_len c.get.new.into ≤ k.length) × (sha256 c.get.new.into.items ≡ k.digest)) same (gets.ok, gets.short, sym read ∙ alike);
      digest = read;
      short = search rules;
      damaged = λ put got is. absurd cc;
      stands = λ bytes stands. (got_is c.args.self.now.pairs bytes (g.K.Storage.told c.args.keeper.now) c.args.n c.kept-kept.result c.get.new.into.items c.kept-kept.ensures.value stands gets.ok).0;
      sound = λ bytes stands put got is. absurd cc;
      same = gets.same;
      reserved = gets.reserved;
      counted = gets.counted;
      rest = remains_as g.K.Storage c.args.keeper.now c.get.new.self (λ e. absurd cc) (λ e. absurd cc) gets.rest;
      roomy = λ room kept has at fits is. absurd cc;
    }
