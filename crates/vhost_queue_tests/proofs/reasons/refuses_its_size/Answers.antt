use Rattle.std.proofs.Common.{◌∙◌}
use Rattle.vhost_queue_tests.proofs.Sizes.{refused}
use Rattle.vhost_queue_tests.proofs.reasons.refuses_its_size.Goals as goal

pub returns-in-Err-InvalidSize : goal.returns-in-Err-InvalidSize
returns-in-Err-InvalidSize c =
    c.is_err.ensures.value
    ∙ refused _ _ _ _ _ c.in-Err-InvalidSize.field-0 c.in-Err-InvalidSize.field-0-is c.in-Err-InvalidSize.ensures.reason c.map-in-Err-InvalidSize.result c.map-in-Err-InvalidSize.ensures.size
