use Rattle.scev_tool.specs.Report.{AreItemLines}
use Rattle.scev_tool.proofs.Pieces.{appends-item}
use Rattle.scev_tool.proofs.report.report_module.Goals as goal

pub loop-item-preserved : goal.loop-item-preserved
loop-item-preserved c =
    let items = c.as_slice-item-items.result.now in
    let globals = c.as_slice-globals.result.now in
    let added = c.in_ok-push_item.ensures in
    appends-item (AreItemLines globals) items c.loop-item.item-index c.item-item.result c.loop-item-test.true
    c.item-item.is _ c.loop-item.text.items _ added.0 c.loop-item.invariant added.1 added.2
