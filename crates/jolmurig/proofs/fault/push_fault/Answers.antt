use Rattle.jolmurig.proofs.fault.push_fault.Goals as goal

pub returns-in-NoCommand : goal.returns-in-NoCommand
returns-in-NoCommand c = rw c.in-NoCommand.is c.push_text.ensures

pub returns-in-UnknownCommand : goal.returns-in-UnknownCommand
returns-in-UnknownCommand c = rw c.in-UnknownCommand.is c.push_behind.ensures

pub returns-in-UnknownOption : goal.returns-in-UnknownOption
returns-in-UnknownOption c = rw c.in-UnknownOption.is c.push_behind-in-UnknownOption.ensures

pub returns-in-Empty : goal.returns-in-Empty
returns-in-Empty c = rw c.in-Empty.is c.push_text-in-Empty.ensures

pub returns-in-Unexpected : goal.returns-in-Unexpected
returns-in-Unexpected c = rw c.in-Unexpected.is c.push_behind-in-Unexpected.ensures

pub returns-in-NoValue : goal.returns-in-NoValue
returns-in-NoValue c = rw c.in-NoValue.is c.push_before.ensures

pub returns-in-Twice : goal.returns-in-Twice
returns-in-Twice c = rw c.in-Twice.is c.push_before-in-Twice.ensures

pub returns-in-TypeAndTree : goal.returns-in-TypeAndTree
returns-in-TypeAndTree c = rw c.in-TypeAndTree.is c.push_text-in-TypeAndTree.ensures

pub returns-in-JsonAndType : goal.returns-in-JsonAndType
returns-in-JsonAndType c = rw c.in-JsonAndType.is c.push_text-in-JsonAndType.ensures

pub returns-in-NoType : goal.returns-in-NoType
returns-in-NoType c = rw c.in-NoType.is c.push_text-in-NoType.ensures

pub returns-in-NoFormat : goal.returns-in-NoFormat
returns-in-NoFormat c = rw c.in-NoFormat.is c.push_text-in-NoFormat.ensures

pub returns-in-NoDirection : goal.returns-in-NoDirection
returns-in-NoDirection c = rw c.in-NoDirection.is c.push_text-in-NoDirection.ensures

pub returns-in-NoKeytab : goal.returns-in-NoKeytab
returns-in-NoKeytab c = rw c.in-NoKeytab.is c.push_text-in-NoKeytab.ensures

pub returns-in-OtherPac : goal.returns-in-OtherPac
returns-in-OtherPac c = rw c.in-OtherPac.is c.push_text-in-OtherPac.ensures
