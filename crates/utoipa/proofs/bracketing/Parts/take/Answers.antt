use Rattle.utoipa.proofs.PartsOfDocuments.{one_taken}
use Rattle.utoipa.proofs.bracketing.Parts.take.Goals as goal

pub returns-clause-parts : goal.returns-clause-parts
returns-clause-parts c = λ documents before.
    let document = c.args.document.now in
    record {
      servers = one_taken (λ d. d.servers) documents document _ _ _ c.in_ok-push.ensures.items c.take.ensures.value before.servers;
      security = one_taken (λ d. d.security) documents document _ _ _ c.in_ok-push-2.ensures.items c.take-2.ensures.value before.security;
      tags = one_taken (λ d. d.tags) documents document _ _ _ c.in_ok-push-3.ensures.items c.take-3.ensures.value before.tags;
      paths = one_taken (λ d. d.paths) documents document _ _ _ c.in_ok-push-4.ensures.items c.replace.ensures.value before.paths;
      components = one_taken (λ d. d.components) documents document _ _ _ c.in_ok-push-5.ensures.items c.take-4.ensures.value before.components;
    }
