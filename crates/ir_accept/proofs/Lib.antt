pub mod OneFault
pub mod FunctionLists
